use Rattle.std.proofs.Common.{◌≡◌, drop, map}
use Rattle.std.specs.List.{list_any}
use Rattle.std.specs.Str.{bytes_eq}
use Rattle.pmb_keys.specs.CommandView.{bit_parts}
use Rattle.pmb_keys.proofs.bits_key.has_name.Given as goal

-- the bits so far have other names
abbrev pub invariant-loop-bit : goal.invariant-loop-bit
invariant-loop-bit l =
    list_any (bytes_eq l.fn.name) (map (λ b. b.name) (map bit_parts (drop l.bit-index l.bits)))
    ≡ list_any (bytes_eq l.fn.name) (map (λ b. b.name) (map bit_parts l.bits))
