-- A work that may lack memory: what its outcome and its status say. For `do_work`,
-- `run_under_front` and `run_under_sample`. Its outcome is that of a run (`Statuses`), or there
-- was no memory before anything was read or written.
use Rattle.std.proofs.Common.{◌≡◌, ◌∙◌, ℕ, true, Result, Ok, Err, List, [], inl, inr, refl, sym, ap, subst}
use Rattle.pmb_preamble.specs.Front.{MadeFrontReads}
use Rattle.pmb_io.specs.Runs.{AsTool, Done, Job, PartDone, Ran}
use Rattle.pmb_io.specs.Told.{ReaderTold, WriterTold}
use Rattle.pmb_io.specs.declared.empty.Empty.{Empty}
use Rattle.pmb_io.specs.declared.fault.ToolFault.{ToolFault}
use Rattle.pmb_io.specs.declared.fault.ToolFault.TheVariants.{Read, Write, TooManyReads, ProfileTooLong, Memory}
use Rattle.pmb_io.specs.declared.tally.Tally.{Tally}
use Rattle.pmb_run.specs.Lines.{OrNoMemory}
use Rattle.pmb_table.specs.Profile.{ProfileParts}
use Rattle.pmb_args.specs.ExitStatus.{run_status}
use Rattle.pmb_args.specs.declared.exit_status.ExitStatus.{ExitStatus}
use Rattle.pmb_args.specs.declared.exit_status.ExitStatus.TheVariants.{BadArguments, IoFailed, NoMemory}
use Rattle.pmb_args.specs.Asked.{Wanted}
use Rattle.pmb_cli.specs.Often.{MadeReadsInAll}
use Rattle.pmb_cli.specs.Statuses.{Does, StatusTells}
use Rattle.pmb_cli.specs.Works.{takes_memory, working}
use Rattle.pmb_cli.proofs.Often.{reads_of_front}
use Rattle.pmb_cli.proofs.Statuses.{IsBefore, does_none, nothing_did, nothing_tells, nothing_told, run_did}
use Rattle.pmb_cli.proofs.Statuses.{run_unrefused, status_tells}

-- ---- a result that holds, or there was no memory

module _ {A : Type 0} (NoMemory : Type 0) (Holds : Result A ToolFault → Type 0) where
  -- what follows from each follows from both
  pub from_either : (P : Result A ToolFault → Type 0) → ((result : Result A ToolFault) → Holds result → P result)
      → (NoMemory → P (Err Memory)) → (result : Result A ToolFault) → OrNoMemory NoMemory Holds result → P result
  from_either P held lacked (Ok answer) either = held (Ok answer) either
  from_either P held lacked (Err Read) either = held (Err Read) either
  from_either P held lacked (Err Write) either = held (Err Write) either
  from_either P held lacked (Err TooManyReads) either = held (Err TooManyReads) either
  from_either P held lacked (Err ProfileTooLong) either = held (Err ProfileTooLong) either
  from_either P held lacked (Err Memory) either = lacked either

-- ---- a work over a reader and a writer

module _ {R W : Type 0} (reader_told : R → ReaderTold) (writer_told : W → WriterTold) (Given : Type 0) (job : Job Tally)
    (first : List ℕ) (reader reader_new : R) (out out_new : W) where
  -- it is done, or there was no memory before anything was read or written
  abbrev IsRun : Result Tally ToolFault → Type 0
  IsRun = AsTool (Ran reader_told writer_told job first (reader, out) (reader_new, out_new))

  abbrev Worked : Result Tally ToolFault → Type 0
  Worked = OrNoMemory (Given × (reader_new ≡ reader) × (out_new ≡ out)) IsRun

  -- one that takes no memory lacks none
  pub work_without_memory : (outcome : Result Tally ToolFault) → IsRun outcome → Worked outcome
  work_without_memory (Ok tally) ran = ran
  work_without_memory (Err Read) ran = ran
  work_without_memory (Err Write) ran = ran
  work_without_memory (Err TooManyReads) ran = ran
  work_without_memory (Err ProfileTooLong) ran = ran
  work_without_memory (Err Memory) ran = absurd ran

  -- and one that may lack it
  pub work_with_memory : Given → (outcome : Result Tally ToolFault)
      → OrNoMemory ((reader_new ≡ reader) × (out_new ≡ out)) IsRun outcome → Worked outcome
  work_with_memory given (Ok tally) ran = ran
  work_with_memory given (Err Read) ran = ran
  work_with_memory given (Err Write) ran = ran
  work_with_memory given (Err TooManyReads) ran = ran
  work_with_memory given (Err ProfileTooLong) ran = ran
  work_with_memory given (Err Memory) none = (given, none.0, none.1)

  abbrev DoesIt : ExitStatus → Type 0
  DoesIt = Does (λ tally. Done reader_told writer_told job tally first (reader, out) (reader_new, out_new))
      (PartDone reader_told writer_told job first (reader, out) (reader_new, out_new)) (writer_told out)
      (writer_told out_new)

  -- what it wrote
  pub worked_did : (outcome : Result Tally ToolFault) (status : ExitStatus) → status ≡ run_status outcome
      → Worked outcome → DoesIt status
  worked_did outcome status is worked = subst DoesIt (sym is) (from_either _ _ (λ outcome. DoesIt (run_status outcome))
      (λ outcome ran. run_did reader_told writer_told job first (reader, out) (reader_new, out_new) outcome
      (run_status outcome) refl ran)
      (λ none. does_none _ _ _ _ NoMemory (inr refl)) outcome worked)

  -- the profile was not refused by it
  pub worked_unrefused : (outcome : Result Tally ToolFault) → Worked outcome → run_status outcome ≡ BadArguments → ⊥
  worked_unrefused = from_either _ _ (λ outcome. run_status outcome ≡ BadArguments → ⊥)
      (λ outcome ran bad. run_unrefused reader_told writer_told job first (reader, out)
      (reader_new, out_new) outcome ran (inl bad))
      (λ none bad. let clash : NoMemory ≡ BadArguments = bad in cc)

  -- without memory nothing was read
  pub worked_unread : (outcome : Result Tally ToolFault) → Worked outcome → run_status outcome ≡ NoMemory
      → reader_new ≡ reader
  worked_unread = from_either _ _ (λ outcome. run_status outcome ≡ NoMemory → reader_new ≡ reader)
      (λ outcome ran memory. absurd (run_unrefused reader_told writer_told job first (reader, out)
      (reader_new, out_new) outcome ran (inr memory)))
      (λ none memory. none.1)

  -- what its status tells, where the reader was read before
  pub worked_tells : (start : R) → IsBefore (reader_told start) (reader_told reader)
      → (outcome : Result Tally ToolFault) (status : ExitStatus) → status ≡ run_status outcome → Worked outcome
      → StatusTells reader_told writer_told (start, out) (reader_new, out_new) status
  worked_tells start before outcome status is worked =
      subst (StatusTells reader_told writer_told (start, out) (reader_new, out_new)) (sym is)
      (from_either _ _ (λ outcome. StatusTells reader_told writer_told (start, out) (reader_new, out_new)
      (run_status outcome))
      (λ outcome ran. status_tells reader_told writer_told job first (reader, out)
      (reader_new, out_new) start before outcome (run_status outcome) refl ran)
      (λ none. record {
        unwritten = λ _. none.2;
        none_failed = λ _. (
          ap (λ (r : R). (reader_told r).failures) none.1 ∙ before.none_failed,
          ap (λ (w : W). (writer_told w).failures) none.2,
        );
        io_failed = λ failed. let clash : NoMemory ≡ IoFailed = failed in cc;
        reads = subst (λ (r : R). MadeReadsInAll (reader_told start).reads (reader_told r).reads) (sym none.1)
            (reads_of_front _ _ before.few);
      })
      outcome worked)

-- ---- by which work it is

module _ {R W : Type 0} (reader_told : R → ReaderTold) (writer_told : W → WriterTold) (work wanted : Wanted)
    (is : work ≡ wanted) (bus : ProfileParts) (first : List ℕ) (reader reader_new : R) (out out_new : W) where
  abbrev Did : Wanted → Result Tally ToolFault → Type 0
  Did w = AsTool (Ran reader_told writer_told (working w bus) first (reader, out) (reader_new, out_new))

  abbrev DidOrNoMemory : Wanted → Result Tally ToolFault → Type 0
  DidOrNoMemory w = OrNoMemory ((takes_memory w ≡ true) × (reader_new ≡ reader) × (out_new ≡ out)) (Did w)

  -- one that takes no memory, as the job of what it was done under
  pub did_work : (job : Job Tally) → job ≡ working wanted bus → (outcome : Result Tally ToolFault)
      → AsTool (Ran reader_told writer_told job first (reader, out) (reader_new, out_new)) outcome
      → DidOrNoMemory work outcome
  did_work job same outcome ran = subst (λ (w : Wanted). DidOrNoMemory w outcome) (sym is)
      (work_without_memory reader_told writer_told (takes_memory wanted ≡ true) (working wanted bus) first reader
      reader_new out out_new outcome (subst (λ (j : Job Tally). AsTool (Ran reader_told writer_told j first (reader, out)
      (reader_new, out_new)) outcome) same ran))

  -- one that may lack memory
  pub did_with_memory : (job : Job Tally) → job ≡ working wanted bus → takes_memory wanted ≡ true
      → (outcome : Result Tally ToolFault)
      → OrNoMemory ((reader_new ≡ reader) × (out_new ≡ out))
      (AsTool (Ran reader_told writer_told job first (reader, out) (reader_new, out_new))) outcome
      → DidOrNoMemory work outcome
  did_with_memory job same takes outcome ran = subst (λ (w : Wanted). DidOrNoMemory w outcome) (sym is)
      (work_with_memory reader_told writer_told (takes_memory wanted ≡ true) (working wanted bus) first reader
      reader_new out out_new takes outcome (subst (λ (j : Job Tally). OrNoMemory ((reader_new ≡ reader) × (out_new ≡ out))
      (AsTool (Ran reader_told writer_told j first (reader, out) (reader_new, out_new))) outcome) same ran))

-- ---- over a reader that has nothing, after the front of another

module _ {R W : Type 0} (reader_told : R → ReaderTold) (writer_told : W → WriterTold) (Given : Type 0) (job : Job Tally)
    (empty empty_new : Empty) (out out_new : W) where
  abbrev NothingWorked : Result Tally ToolFault → Type 0
  NothingWorked = OrNoMemory (Given × (empty_new ≡ empty) × (out_new ≡ out))
      (AsTool (Ran nothing_told writer_told job [] (empty, out) (empty_new, out_new)))

  -- what its status tells of the reader whose front was read
  pub nothing_worked_tells : (start mid : R) → (reader_told mid).failures ≡ (reader_told start).failures
      → MadeFrontReads (reader_told start).reads (reader_told mid).reads
      → (outcome : Result Tally ToolFault) (status : ExitStatus) → status ≡ run_status outcome → NothingWorked outcome
      → StatusTells reader_told writer_told (start, out) (mid, out_new) status
  nothing_worked_tells start mid none_failed few outcome status is worked =
      subst (StatusTells reader_told writer_told (start, out) (mid, out_new)) (sym is)
      (from_either _ _ (λ outcome. StatusTells reader_told writer_told (start, out) (mid, out_new) (run_status outcome))
      (λ outcome ran. nothing_tells reader_told writer_told job empty empty_new out out_new start mid none_failed few
      outcome (run_status outcome) refl ran)
      (λ none. record {
        unwritten = λ _. none.2;
        none_failed = λ _. (none_failed, ap (λ (w : W). (writer_told w).failures) none.2);
        io_failed = λ failed. let clash : NoMemory ≡ IoFailed = failed in cc;
        reads = reads_of_front _ _ few;
      })
      outcome worked)

  -- what was written for all profile
  pub nothing_worked_did : (Wrote : Tally → Type 0) (WrotePart : Type 0) (wrote : (tally : Tally)
      → Done nothing_told writer_told job tally [] (empty, out) (empty_new, out_new) → Wrote tally)
      → (outcome : Result Tally ToolFault) (status : ExitStatus) → status ≡ run_status outcome → NothingWorked outcome
      → Does Wrote WrotePart (writer_told out) (writer_told out_new) status
  nothing_worked_did Wrote WrotePart wrote outcome status is worked =
      subst (Does Wrote WrotePart (writer_told out) (writer_told out_new)) (sym is)
      (from_either _ _ (λ outcome. Does Wrote WrotePart (writer_told out) (writer_told out_new) (run_status outcome))
      (λ outcome ran. nothing_did reader_told writer_told job empty empty_new out out_new Wrote WrotePart wrote outcome
      (run_status outcome) refl ran)
      (λ none. does_none _ _ _ _ NoMemory (inr refl)) outcome worked)
