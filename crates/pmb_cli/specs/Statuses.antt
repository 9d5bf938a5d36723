-- What the exit status says of a reader and standard output, as they were before and after.
use Rattle.std.specs.Prelude.{◌≡◌, ◌≢◌, ◌⊎◌, Ok}
use Rattle.pmb_cli.specs.Often.{MadeReadsInAll}
use Rattle.pmb_io.specs.Count.{raised}
use Rattle.pmb_io.specs.Told.{ReaderTold, WriterTold}
use Rattle.pmb_io.specs.declared.tally.Tally.{Tally}
use Rattle.pmb_args.specs.ExitStatus.{EndedWell, ReadOften, run_status}
use Rattle.pmb_args.specs.declared.exit_status.ExitStatus.{ExitStatus}
use Rattle.pmb_args.specs.declared.exit_status.ExitStatus.TheVariants.{BadArguments, IoFailed, NoMemory}

module _ {R W : Type 0} (reader_told : R → ReaderTold) (writer_told : W → WriterTold) where
  -- Whatever was asked for.
  pub record StatusTells (old new : R × W) (status : ExitStatus) : Type 0 where
    -- Standard output stays as it is where anything was refused at the start.
    pub unwritten : (status ≡ BadArguments) ⊎ (status ≡ NoMemory) → new.1 ≡ old.1
    -- No read and no write on standard output failed where it is anything but IoFailed; and where
    -- it is, one did, or there
    -- were too many reads.
    pub none_failed : status ≢ IoFailed → ((reader_told new.0).failures ≡ (reader_told old.0).failures)
        × ((writer_told new.1).failures ≡ (writer_told old.1).failures)
    pub io_failed : status ≡ IoFailed → (((reader_told new.0).failures ≡ raised (reader_told old.0).failures 1)
        × ((reader_told new.0).ended ≡ (reader_told old.0).ended))
        ⊎ (((writer_told new.1).failures ≡ raised (writer_told old.1).failures 1)
        ⊎ (ReadOften (reader_told old.0) (reader_told new.0)
        × ((reader_told new.0).ended ≡ (reader_told old.0).ended)))
    -- The reads that neither failed nor were the end are those of `front` and of the work after it at most.
    pub reads : MadeReadsInAll (reader_told old.0).reads (reader_told new.0).reads

-- Of what was asked for, and of a writer.
pub record Does (Wrote : Tally → Type 0) (WrotePart : Type 0) (old new : WriterTold)
    (status : ExitStatus) : Type 0 where
  -- All of it was written; the status is Refusals exactly where the tally has refusals.
  pub wrote : EndedWell status → (tally : Tally) × (status ≡ run_status (Ok tally)) × Wrote tally
  -- Where a read failed or there were too many, it is the part of that for the bytes that were read.
  pub part : status ≡ IoFailed → (new.failures ≡ raised old.failures 1) ⊎ WrotePart
