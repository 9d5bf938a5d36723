use Rattle.std.proofs.Common.{◌≡◌, take}
use Rattle.pmb_registers.specs.Apply.{cleared_bits}
use Rattle.pmb_registers.proofs.bits.clear_bits.Given as goal

abbrev pub invariant-loop-i : goal.invariant-loop-i
invariant-loop-i l = l.bytes ≡ cleared_bits (take l.i l.written) l.initial.bytes
