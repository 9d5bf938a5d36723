use Rattle.std.proofs.Common.{◌≡◌, length, take}
use Rattle.std.specs.List.{flat_map}
use Rattle.pmb_registers.specs.State.{registers_of}
use Rattle.pmb_registers.proofs.first.count_registers.Given as goal

-- those of the commands so far
abbrev pub invariant-loop-i : goal.invariant-loop-i
invariant-loop-i l = l.count ≡ length (flat_map (registers_of l.device) (take l.i l.device.commands))
