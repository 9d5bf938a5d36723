use Rattle.std.proofs.Common.{◌≡◌, ◌++◌, map, take, drop}
use Rattle.std.specs.Prelude.{bit_or}
use Rattle.pmb_registers.proofs.bits.set_in_each.Given as goal

abbrev pub invariant-loop-byte : goal.invariant-loop-byte
invariant-loop-byte l = l.bytes ≡ map (λ byte. bit_or byte l.mask) (take l.byte-index l.initial.bytes)
    ++ drop l.byte-index l.initial.bytes
