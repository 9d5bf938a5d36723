-- Facts that are told as the records of their items.
use Rattle.std.specs.Prelude.{◌≡◌, ℕ, List, ◌∷◌, ◌++◌, filter, flat_map}
use Rattle.pmb_command.specs.Parts.{DeviceParts}
use Rattle.pmb_facts.specs.Fact.{FactData}
use Rattle.pmb_items.specs.Item.{item_of}
use Rattle.pmb_items.specs.Record.{item_bytes}
use Rattle.pmb_fact_stream.specs.Choice.{ChoiceData}
use Rattle.pmb_fact_stream.specs.Lines.{is_wanted_fact, seen_behind}

module _ (choice : ChoiceData) (profile : List DeviceParts) where
  -- the facts that are told
  abbrev pub wanted_facts : List FactData → List FactData
  wanted_facts facts = filter (is_wanted_fact choice profile) facts

  abbrev pub fact_record : FactData → List ℕ
  fact_record fact = item_bytes (item_of (seen_behind choice profile fact.before) fact.head fact.what)

  abbrev pub fact_records : List FactData → List ℕ
  fact_records facts = flat_map fact_record facts

  -- Of the records of facts some were taken, one comes next, and others are left: each is that of its fact.
  pub record TakesNext (facts : List FactData) (taken next left : List ℕ) : Type 0 where
    pub front : List FactData
    pub fact : FactData
    pub back : List FactData
    pub all : wanted_facts facts ≡ front ++ fact ∷ back
    pub of_front : taken ≡ fact_records front
    pub of_fact : next ≡ fact_record fact
    pub of_back : left ≡ fact_records back
