-- What a run over a capture wrote, told as its command tells it. For `write_capture` of
-- `src/commands/written.rt`. The loop over pieces has a job of its own, of the `Capture` it began
-- with; where a fault ended it, the bytes so far begin a text.
use Rattle.std.proofs.Common.{◌≡◌, ℕ, Ok, Err, List, sym, subst}
use Rattle.pmb_bus.specs.Text.{BeginsText}
use Rattle.pmb_command.specs.Parts.{DeviceParts}
use Rattle.pmb_io.specs.Engines.{engine_job}
use Rattle.pmb_io.specs.declared.fault.RunFault.{RunFault}
use Rattle.pmb_io.specs.declared.tally.Tally.{Tally}
use Rattle.pmb_io.specs.Runs.{Job, Ran}
use Rattle.pmb_io.specs.Told.{ReaderTold, WriterTold}
use Rattle.pmb_io.proofs.RunLemmas.{failed_as, ran_as}
use Rattle.pmb_whole_input.specs.Whole.{Wrote}
use Rattle.pmb_transaction.specs.Transaction.{TransactionData}
use Rattle.pmb_capture.specs.declared.capture.Capture.{Capture}
use Rattle.pmb_capture.specs.Output.{OutputText}
use Rattle.pmb_capture.specs.Written.{WritesFront, writing}
use Rattle.pmb_capture.specs.machine.Capture.{HasWritten, HasStopped, HasEnded, capture_profile}

module _ {O : Type 0} (TextOf : O → OutputText) (StandsBehind : O → List TransactionData → Type 0) where
  -- whatever is left of a capture comes to something
  abbrev pub Leaves : Capture O → Type 0
  Leaves now = (start : Capture O) (bytes text : List ℕ) → HasWritten TextOf StandsBehind start now bytes text
      → WritesFront (TextOf start.account.output) (capture_profile start) bytes text

  -- the bytes of an open one begin a text
  begins : (start now : Capture O) (bytes text : List ℕ) → HasWritten TextOf StandsBehind start now bytes text
      → BeginsText bytes
  begins start now bytes text written = subst (λ (b : List ℕ). BeginsText b) written.is_text written.stands.lexer.begins

  -- what a capture is to write as the loop over pieces says it
  abbrev pub capture_job : Capture O → Capture O → Job (Unit {0})
  capture_job = engine_job (HasWritten TextOf StandsBehind) (HasStopped TextOf StandsBehind)
      (HasEnded TextOf StandsBehind)

  module _ {R W : Type 0} (reader_told : R → ReaderTold) (writer_told : W → WriterTold) (start now : Capture O)
      (output : OutputText) (profile : List DeviceParts)
      (same_output : TextOf start.account.output ≡ output) (same_profile : capture_profile start ≡ profile)
      (first : List ℕ) (old new : R × W) where
    -- it is done, and what was open began a text
    pub capture_ran : (tally : Tally) → tally ≡ now.account.tally
        → Ran reader_told writer_told (capture_job start now) first old new (Ok tt)
        → Ran reader_told writer_told (writing output profile) first old new (Ok tally)
    capture_ran tally counted ran =
        subst (λ (p : List DeviceParts). Ran reader_told writer_told (writing output p) first old new (Ok tally))
        same_profile
        (subst (λ (o : OutputText). Ran reader_told writer_told (writing o (capture_profile start)) first old new
        (Ok tally)) same_output
        (subst (λ (t : Tally). Ran reader_told writer_told
        (writing (TextOf start.account.output) (capture_profile start)) first old new (Ok t)) (sym counted)
        (ran_as reader_told writer_told (capture_job start now) first old new
        (writing (TextOf start.account.output) (capture_profile start)) tt now.account.tally
        (λ bytes text ended. ended) (λ bytes text stopped. stopped)
        (λ bytes opened. begins start opened.0 bytes opened.1 opened.2) ran)))

    -- a fault came before that
    pub capture_failed : (fault : RunFault) → Leaves now
        → Ran reader_told writer_told (capture_job start now) first old new (Err fault)
        → Ran reader_told writer_told (writing output profile) first old new (Err fault)
    capture_failed fault leaves ran =
        subst (λ (p : List DeviceParts). Ran reader_told writer_told (writing output p) first old new (Err fault))
        same_profile
        (subst (λ (o : OutputText). Ran reader_told writer_told (writing o (capture_profile start)) first old new
        (Err fault)) same_output
        (failed_as reader_told writer_told (capture_job start now) first old new
        (writing (TextOf start.account.output) (capture_profile start)) fault
        (λ bytes text written. leaves start bytes text written) ran))

  module _ {W : Type 0} (told : W → WriterTold) (start now : Capture O) (output : OutputText)
      (profile : List DeviceParts) (same_output : TextOf start.account.output ≡ output)
      (same_profile : capture_profile start ≡ profile) (input : List ℕ) (old new : W) where
    -- a capture that was at hand as a whole is written
    pub capture_wrote : (tally : Tally) → tally ≡ now.account.tally
        → Wrote told (capture_job start now) input old new tt → Wrote told (writing output profile) input old new tally
    capture_wrote tally counted wrote =
        subst (λ (p : List DeviceParts). Wrote told (writing output p) input old new tally) same_profile
        (subst (λ (o : OutputText). Wrote told (writing o (capture_profile start)) input old new tally) same_output
        (subst (λ (t : Tally). Wrote told (writing (TextOf start.account.output) (capture_profile start)) input old new
        t) (sym counted) (record {
          text = wrote.text;
          is_text = wrote.is_text;
          appended = wrote.appended;
          none_failed = wrote.none_failed;
        })))
