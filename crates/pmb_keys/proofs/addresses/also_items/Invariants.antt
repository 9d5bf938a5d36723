use Rattle.std.proofs.Common.{◌≡◌, false, Ok, drop, length, replicate}
use Rattle.toml.specs.View.{items_view}
use Rattle.pmb_keys.specs.Addresses.{also_address}
use Rattle.pmb_keys.specs.machine.Addresses.{marked, marking}
use Rattle.pmb_keys.specs.Rules.{bind, each_of}
use Rattle.pmb_keys.proofs.addresses.also_items.Given as goal

-- the flags so far, with those of the items from here on, are those of all
abbrev pub invariant-loop-item : goal.invariant-loop-item
invariant-loop-item l = record {
  read : bind (each_of (also_address l.named) (items_view (drop l.item-index l.items)))
      (λ rest. Ok (marked (marking l.flags rest)))
      ≡ bind (each_of (also_address l.named) (items_view l.items))
      (λ all. Ok (marked (marking (replicate 128 false) all)));
  count : length l.flags ≡ 128;
}
