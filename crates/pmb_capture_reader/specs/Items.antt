-- The facts of what a reader was given, whose records are taken one by one.
use Rattle.std.specs.Prelude.{◌≡◌, ℕ, List, ◌++◌}
use Rattle.pmb_capture_reader.specs.declared.reader.Fed.{Fed}
use Rattle.pmb_capture_reader.specs.declared.reader.Fed.TheVariants.{More, Ended, Memory}
use Rattle.pmb_command.specs.Parts.{DeviceParts}
use Rattle.pmb_fact_stream.specs.Before.{at_first}
use Rattle.pmb_fact_stream.specs.Choice.{ChoiceData}
use Rattle.pmb_facts.specs.Fact.{FactData}
use Rattle.pmb_json_objects.specs.Counts.{CountsData}
use Rattle.pmb_scan.specs.declared.after_bad_token.AfterBadToken.{AfterBadToken}
use Rattle.pmb_telling.specs.SoFar.{SoFarFrom}
use Rattle.pmb_telling.specs.Text.{BadLine, FactsFrom}

module _ (choice : ChoiceData) (profile : List DeviceParts) (after : AfterBadToken) where
  -- those of all that has ended in the bytes
  abbrev pub AreFactsSoFar : List ℕ → List FactData → Type 0
  AreFactsSoFar given facts = (bad : List BadLine) × SoFarFrom choice.ignored profile after at_first given bad facts

  -- .. which are those so far; all of them; or those of a front of the bytes, where memory was refused
  abbrev pub AreFacts : Fed → List ℕ → List FactData → Type 0
  AreFacts More given facts = AreFactsSoFar given facts
  AreFacts Ended given facts =
      (bad : List BadLine) × (counts : CountsData) × FactsFrom choice.ignored profile after at_first given bad facts counts
  AreFacts Memory given facts =
      (front : List ℕ) × (rest : List ℕ) × (given ≡ front ++ rest) × AreFactsSoFar front facts
