use Rattle.std.proofs.Common.{◌≡◌, false, drop, length, replicate}
use Rattle.toml.specs.View.{items_view}
use Rattle.pmb_keys.specs.Addresses.{each_named}
use Rattle.pmb_keys.specs.machine.Addresses.{marked, marking}
use Rattle.pmb_keys.proofs.addresses.named_addresses.Given as goal

-- the flags so far, with those of the tables from here on, are those of all
abbrev pub invariant-loop-value : goal.invariant-loop-value
invariant-loop-value l = record {
  named : marked (marking l.flags (each_named (items_view (drop l.value-index l.values))))
      ≡ marked (marking (replicate 128 false) (each_named (items_view l.values)));
  count : length l.flags ≡ 128;
}
