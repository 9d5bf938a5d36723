-- What `tell_kept` is to write, and what its keeper is to keep.
use Rattle.std.specs.Prelude.{◌≡◌, ℕ, List, ◌++◌}
use Rattle.pmb_command.specs.Parts.{DeviceParts}
use Rattle.pmb_facts.specs.Fact.{FactData}
use Rattle.pmb_fact_stream.specs.Choice.{ChoiceData}
use Rattle.pmb_io.specs.Runs.{Job}
use Rattle.pmb_io.specs.declared.tally.Tally.{Tally}
use Rattle.pmb_scan.specs.declared.after_bad_token.AfterBadToken.{AfterBadToken}
use Rattle.pmb_scan.specs.declared.after_bad_token.AfterBadToken.TheVariants.{End}
use Rattle.pmb_telling.specs.Tell.{IsOpenCapture, WritesToldFront}
use Rattle.pmb_telling.specs.Text.{WritesTold}

-- by what the keeper says of facts that it was given
module _ (Kept : List FactData → Type 0) (choice : ChoiceData) (profile : List DeviceParts) (after : AfterBadToken)
  where
    -- What is written for the bytes of a whole capture, whose facts are kept.
    pub record WritesKept (bytes text : List ℕ) (tally : Tally) : Type 0 where
      pub writes : WritesTold choice profile after bytes text tally
      pub kept : Kept writes.facts

    -- No more is wanted: this is all that is written, and these facts are kept, whatever follows.
    pub record StopsKept (bytes text : List ℕ) (tally : Tally) : Type 0 where
      pub ends : after ≡ End
      pub writes : WritesKept bytes text tally
      pub whatever_follows : (more : List ℕ) → WritesKept (bytes ++ more) text tally

    abbrev pub keeping_job : Job Tally
    keeping_job = record {
      Whole = λ tally bytes text. WritesKept bytes text tally;
      Stops = λ tally bytes text. StopsKept bytes text tally;
      Front = WritesToldFront choice profile after;
      IsOpen = IsOpenCapture after;
    }
