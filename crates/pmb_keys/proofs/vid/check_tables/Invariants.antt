use Rattle.std.proofs.Common.{◌≡◌, Ok, drop}
use Rattle.toml.specs.View.{items_view}
use Rattle.pmb_keys.specs.VidRule.{table_rule}
use Rattle.pmb_keys.specs.Rules.{bind, each_of}
use Rattle.pmb_keys.proofs.vid.check_tables.Given as goal

-- the items from here on answer what all do
abbrev pub invariant-loop-item : goal.invariant-loop-item
invariant-loop-item l = bind {Y = Unit} (each_of table_rule (items_view (drop l.item-index l.items))) (λ _. Ok tt)
    ≡ bind {Y = Unit} (each_of table_rule (items_view l.items)) (λ _. Ok tt)
