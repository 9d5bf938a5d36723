use Rattle.std.proofs.Common.{◌≡◌, ◌∙◌, ◌++◌, ◌+◌, List, ℕ, true, ap, append_assoc, arith, drop, map, subst, sym}
use Rattle.std.specs.List.{AllByRecursion, flat_map}
use Rattle.pmb_command.specs.Names.{is_name}
use Rattle.pmb_keys.specs.CommandView.{bit_parts}
use Rattle.pmb_keys.specs.declared.command.NamedBit.{NamedBit as CodeBit}
use Rattle.pmb_profile_text.specs.Table.{bit_line}
use Rattle.pmb_profile_text.proofs.Names.{next_bit}
use Rattle.pmb_profile_text.proofs.meaning.append_bits.Goals as goal

-- one more bit has its line
pub loop-named-preserved : goal.loop-named-preserved
loop-named-preserved c =
    let bits = c.args.bits.now in
    let i = c.loop-named.named-index in
    let b = c.named-item.result in
    let sofar = c.loop-named.lines.items in
    let rest = flat_map bit_line (map bit_parts (drop (i + 1) bits)) in
    let here = next_bit bits i b c.loop-named-test.true c.named-item.is in
    record {
      text =
          ap (λ (t : List ℕ). t ++ rest) c.append_bit.ensures.text
          ∙ append_assoc sofar (bit_line (bit_parts b)) rest
          ∙ ap (λ (left : List CodeBit). sofar ++ flat_map bit_line (map bit_parts left)) (sym here)
          ∙ c.loop-named.invariant.text;
      names = (subst (AllByRecursion (λ (x : CodeBit). is_name x.name.bytes ≡ true)) here
          c.loop-named.invariant.names).1;
      short = omega (arith, c.append_bit.ensures.short, c.loop-named.invariant.short);
    }
