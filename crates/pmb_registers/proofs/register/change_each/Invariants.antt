use Rattle.std.proofs.Common.{◌≡◌, ◌++◌, map, take, drop, nat_eq}
use Rattle.pmb_registers.specs.Apply.{changed}
use Rattle.pmb_registers.specs.machine.Registers.{change_of, register_data}
use Rattle.pmb_registers.proofs.register.change_each.Given as goal

abbrev pub invariant-loop-register : goal.invariant-loop-register
invariant-loop-register l =
    map register_data l.registers ≡ changed l.selected (nat_eq l.code) (change_of l.change)
    (map register_data (take l.register-index l.initial.registers))
    ++ map register_data (drop l.register-index l.initial.registers)
