-- What a call that writes a first profile returns, and what it has done then.
use Rattle.std.specs.Prelude.{◌≡◌, Result, Ok, Err, List, ℕ}
use Rattle.pmb_io.specs.Runs.{MadeReads, Ran}
use Rattle.pmb_io.specs.Told.{ReaderTold, WriterTold}
use Rattle.pmb_io.specs.declared.fault.RunFault.TheVariants.{Read, Write, TooManyReads}
use Rattle.pmb_io.specs.declared.fault.ToolFault.TheVariants as tool
use Rattle.pmb_io.specs.declared.tally.Tally.{Tally}
use Rattle.pmb_draft.specs.Draft.{drafting}
use Rattle.pmb_draft.specs.declared.fault.DraftFault.{DraftFault}
use Rattle.pmb_draft.specs.declared.fault.DraftFault.TheVariants.{Tool, TooLong, Refused}

-- the faults with which there is no text
abbrev pub IsTextFault : DraftFault → Type 0
IsTextFault (Tool tool.Read) = ⊥
IsTextFault (Tool tool.Write) = ⊥
IsTextFault (Tool tool.TooManyReads) = ⊥
IsTextFault (Tool tool.ProfileTooLong) = ⊥
IsTextFault (Tool tool.Memory) = Unit
IsTextFault TooLong = Unit
IsTextFault Refused = Unit

module _ {R W : Type 0} (reader_told : R → ReaderTold) (writer_told : W → WriterTold) where
  -- No read and no write failed, and nothing was written. The capture may have been read.
  pub record WroteNothing (old new : R × W) : Type 0 where
    pub unwritten : new.1 ≡ old.1
    pub none_failed : (reader_told new.0).failures ≡ (reader_told old.0).failures
    pub reads : MadeReads (reader_told old.0).reads (reader_told new.0).reads

  -- It is a run whose text is a first profile; or there was no memory, or no such profile, and nothing was
  -- written.
  abbrev pub Drafts : List ℕ → R × W → R × W → Result Tally DraftFault → Type 0
  Drafts first old new (Ok tally) = Ran reader_told writer_told drafting first old new (Ok tally)
  Drafts first old new (Err (Tool tool.Read)) = Ran reader_told writer_told drafting first old new (Err Read)
  Drafts first old new (Err (Tool tool.Write)) = Ran reader_told writer_told drafting first old new (Err Write)
  Drafts first old new (Err (Tool tool.TooManyReads)) =
      Ran reader_told writer_told drafting first old new (Err TooManyReads)
  Drafts first old new (Err (Tool tool.ProfileTooLong)) = ⊥
  Drafts first old new (Err (Tool tool.Memory)) = WroteNothing old new
  Drafts first old new (Err TooLong) = WroteNothing old new
  Drafts first old new (Err Refused) = WroteNothing old new
