use Rattle.std.proofs.Common.{◌≡◌, None, map, take}
use Rattle.pmb_registers.specs.State.{held}
use Rattle.pmb_registers.specs.machine.Registers.{register_data}
use Rattle.pmb_registers.proofs.register.bytes_on.Given as goal

abbrev pub invariant-loop-register : goal.invariant-loop-register
invariant-loop-register l = held l.page l.code (map register_data (take l.register-index l.registers)) ≡ None
