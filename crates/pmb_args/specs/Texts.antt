-- What a status says where some text was written and nothing else was done.
use Rattle.std.specs.Prelude.{◌≡◌, ◌≢◌, ◌⊎◌}
use Rattle.pmb_io.specs.Count.{raised}
use Rattle.pmb_io.specs.Told.{WriterTold}
use Rattle.pmb_args.specs.ExitStatus.{EndedWell, Failed, IsTold, Tells}
use Rattle.pmb_args.specs.declared.exit_status.ExitStatus.{ExitStatus}
use Rattle.pmb_args.specs.declared.exit_status.ExitStatus.TheVariants.{Done, Refusals, BadArguments, IoFailed, NoMemory}

-- By standard output and standard error, before and after: help and the version go to the first
-- alone, a fault to the second.
pub record WroteText {W E : Type 0} (out_told : W → WriterTold) (err_told : E → WriterTold) (old new : W × E)
    (status : ExitStatus) : Type 0 where
  pub out_text : status ≡ Done → Tells (out_told old.0) (out_told new.0)
  pub quiet : EndedWell status → new.1 ≡ old.1
  pub err_text : Failed status → IsTold (err_told old.1) (err_told new.1)
  pub unwritten : (status ≡ BadArguments) ⊎ (status ≡ NoMemory) → new.0 ≡ old.0
  -- standard output failed exactly where it is IoFailed
  pub none_failed : status ≢ IoFailed → (out_told new.0).failures ≡ (out_told old.0).failures
  pub io_failed : status ≡ IoFailed → (out_told new.0).failures ≡ raised (out_told old.0).failures 1
  -- Refusals is for what is read alone
  pub not_refusals : status ≢ Refusals
