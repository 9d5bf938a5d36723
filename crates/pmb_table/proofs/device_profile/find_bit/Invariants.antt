use Rattle.std.proofs.Common.{◌≡◌, drop, map, nat_eq}
use Rattle.std.specs.List.{find}
use Rattle.pmb_keys.specs.CommandView.{bit_parts}
use Rattle.pmb_table.proofs.device_profile.find_bit.Given as goal

-- the bits so far are others
abbrev pub invariant-loop-named : goal.invariant-loop-named
invariant-loop-named l =
    find (λ b. nat_eq b.bit l.fn.bit) (map bit_parts (drop l.named-index l.bits))
    ≡ find (λ b. nat_eq b.bit l.fn.bit) (map bit_parts l.bits)
