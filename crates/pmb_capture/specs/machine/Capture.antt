-- Where a `Capture` is within its capture.
use Rattle.std.proofs.Common.{append_assoc, subst, sym}
use Rattle.std.specs.Prelude.{◌≡◌, ℕ, List, ◌++◌, map}
use Rattle.pmb_command.specs.Bus.{IsBus}
use Rattle.pmb_command.specs.Parts.{DeviceParts}
use Rattle.pmb_io.specs.declared.tally.Tally.{Tally}
use Rattle.pmb_io.specs.Tally.{IsTallyOf}
use Rattle.pmb_scan.specs.Reached.{Reached}
use Rattle.pmb_scan.specs.Scan.{ScanStandsAt}
use Rattle.pmb_spans.specs.Spans.{outcome}
use Rattle.pmb_transaction.specs.Reading.{Outcome, Reading}
use Rattle.pmb_transaction.specs.Transaction.{TransactionData}
use Rattle.pmb_capture.specs.declared.capture.Capture.{Capture}
use Rattle.pmb_capture.specs.Output.{OutputText, packets_in, refusals_in, outcomes_text}
use Rattle.pmb_capture.specs.Written.{WritesAtEnd, WritesUpToBadWord, WritesUpToStop}
use Rattle.pmb_capture.specs.machine.Account.{AccountStands}

-- the profile under which it reads
abbrev pub capture_profile : {O : Type 0} → Capture O → List DeviceParts
capture_profile capture = capture.profile.now

-- the events end, and these are all of their outcomes, whose text was put out with that of the end
pub record EndsEvents (output : OutputText) (reached : Reached) (tally : Tally) (text : List ℕ) : Type 0 where
  pub outcomes : List Outcome
  pub reads : Reading reached.profile reached.events outcomes
  pub lines : text ≡ outcomes_text output outcomes ++ output.at_end tally
  pub counts : IsTallyOf (packets_in outcomes) (refusals_in outcomes) tally

-- ---- as an engine: it began as `start`, and this text was put out for the bytes

module _ {O : Type 0} (TextOf : O → OutputText) (StandsBehind : O → List TransactionData → Type 0) where
  pub record HasWritten (start now : Capture O) (bytes text : List ℕ) : Type 0 where
    pub reached : Reached
    pub profile : reached.profile ≡ capture_profile start
    pub bus : IsBus reached.profile
    pub is_text : reached.text ≡ bytes
    pub stands : ScanStandsAt now.scan reached
    pub written : AccountStands TextOf StandsBehind start.account now.account (map outcome reached.spans) text

  abbrev pub HasStopped : Capture O → Capture O → List ℕ → List ℕ → Type 0
  HasStopped start now bytes text = WritesUpToStop (TextOf start.account.output)
      (capture_profile start) bytes text now.account.tally

  abbrev pub HasEnded : Capture O → Capture O → List ℕ → List ℕ → Type 0
  HasEnded start now bytes text = WritesAtEnd (TextOf start.account.output)
      (capture_profile start) bytes text now.account.tally

  -- what stops it holds whatever follows
  pub stops_for_good : (start now : Capture O) (bytes text more : List ℕ) → HasStopped start now bytes text
      → HasStopped start now (bytes ++ more) text
  stops_for_good start now bytes text more stops = record {
    writes = stops.whatever_follows more;
    whatever_follows = λ others. subst (λ (b : List ℕ). WritesUpToBadWord (TextOf start.account.output)
        (capture_profile start) b text now.account.tally) (sym (append_assoc bytes more others))
        (stops.whatever_follows (more ++ others));
  }
