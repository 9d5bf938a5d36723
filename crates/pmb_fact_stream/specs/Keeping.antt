-- Facts that are told: their lines, and what a keeper keeps of them.
use Rattle.std.specs.Prelude.{◌≡◌, ℕ, List, ◌++◌}
use Rattle.pmb_command.specs.Parts.{DeviceParts}
use Rattle.pmb_facts.specs.Fact.{FactData}
use Rattle.pmb_keeper.specs.Setting.{Setting}
use Rattle.pmb_fact_stream.specs.Choice.{ChoiceData}
use Rattle.pmb_fact_stream.specs.Lines.{fact_lines}

-- where facts are seen, as was chosen and under a profile
abbrev pub setting_under : ChoiceData → List DeviceParts → Setting
setting_under choice profile = record { digits = choice.digits; start = choice.start; profile = profile }

-- What was kept of some facts, whichever these are, is kept of them and of these.
abbrev pub KeepsOn : (List FactData → Type 0) → (List FactData → Type 0) → List FactData → Type 0
KeepsOn Old New facts = (before : List FactData) → Old before → New (before ++ facts)

-- These facts were told, one after the other: the text is their lines, and they are kept.
pub record IsTold (choice : ChoiceData) (profile : List DeviceParts) (Old New : List FactData → Type 0)
    (text : List ℕ) (facts : List FactData) : Type 0 where
  pub lines : text ≡ fact_lines choice profile facts
  pub kept : KeepsOn Old New facts
