use Rattle.std.proofs.Common.{◌≡◌, ◌≤◌, [], drop, length, map}
use Rattle.toml.specs.View.{table_view}
use Rattle.pmb_keys.specs.CommandView.{bit_parts}
use Rattle.pmb_keys.specs.FurtherKeys.{bits_from}
use Rattle.pmb_keys.proofs.bits_key.bits_of_keys.Given as goal

-- with the bits from here on, all are read
abbrev pub invariant-loop-i : goal.invariant-loop-i
invariant-loop-i l = record {
  read : bits_from l.i (map (λ key. key.now) (drop l.i l.keys)) (map bit_parts l.bits.items) (table_view l.table)
      ≡ bits_from 0 (map (λ key. key.now) l.keys) [] (table_view l.table);
  count : length l.bits.items ≤ l.i;
}
