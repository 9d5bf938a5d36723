use Rattle.std.proofs.Common.{◌≡◌, ◌+◌, ◌*◌, ◌≤◌, ◌++◌, true, drop, length, map}
use Rattle.std.specs.List.{AllByRecursion, flat_map}
use Rattle.pmb_command.specs.Names.{is_name}
use Rattle.pmb_keys.specs.CommandView.{bit_parts}
use Rattle.pmb_profile_text.specs.Table.{bit_line}
use Rattle.pmb_profile_text.proofs.meaning.append_bits.Given as goal

-- with the lines of the bits from here on, all are there
abbrev pub invariant-loop-named : goal.invariant-loop-named
invariant-loop-named l = record {
  text : l.lines.items ++ flat_map bit_line (map bit_parts (drop l.named-index l.bits))
      ≡ l.fn.lines.items ++ flat_map bit_line (map bit_parts l.bits);
  names : AllByRecursion (λ b. is_name b.name.bytes ≡ true) (drop l.named-index l.bits);
  short : length l.lines.items ≤ length l.fn.lines.items + 104 * l.named-index;
}
