use Rattle.std.proofs.Common.{◌≡◌, Ok, drop}
use Rattle.toml.specs.Data.{as_str}
use Rattle.toml.specs.View.{items_view}
use Rattle.pmb_keys.specs.Rules.{bind, each_of, typed}
use Rattle.pmb_keys.proofs.initial_items.check_texts.Given as goal

-- the items from here on answer what all do
abbrev pub invariant-loop-item : goal.invariant-loop-item
invariant-loop-item l = bind {Y = Unit} (each_of (typed as_str) (items_view (drop l.item-index l.items))) (λ _. Ok tt)
    ≡ bind {Y = Unit} (each_of (typed as_str) (items_view l.items)) (λ _. Ok tt)
