use Rattle.std.proofs.Common.{◌≡◌, map, take}
use Rattle.pmb_registers.specs.Apply.{changed}
use Rattle.pmb_registers.specs.machine.Registers.{register_data}
use Rattle.pmb_registers.specs.machine.StatusCodes.{is_listed}
use Rattle.pmb_registers.proofs.register_range.clear_in_each.Given as goal

abbrev pub invariant-loop-code : goal.invariant-loop-code
invariant-loop-code l =
    map register_data l.registers ≡ changed l.selected (is_listed (take l.code-index l.codes)) (map (λ byte. 0))
    (map register_data l.initial.registers)
