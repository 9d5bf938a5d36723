use Rattle.std.proofs.Common.{◌≡◌, ◌++◌, map, take, drop}
use Rattle.pmb_registers.proofs.bits.clear_each.Given as goal

abbrev pub invariant-loop-byte : goal.invariant-loop-byte
invariant-loop-byte l = l.bytes ≡ map (λ byte. 0) (take l.byte-index l.initial.bytes)
    ++ drop l.byte-index l.initial.bytes
