use Rattle.std.proofs.Common.{◌≡◌, length, map, take}
use Rattle.std.specs.Prelude.{vec_capacity}
use Rattle.std.specs.List.{flat_map}
use Rattle.pmb_registers.specs.State.{first_state, registers_of}
use Rattle.pmb_registers.specs.machine.Registers.{register_data}
use Rattle.pmb_registers.specs.machine.Places.{ArePlaces}
use Rattle.pmb_registers.proofs.registers.Registers.new.Given as goal

abbrev pub invariant-loop-i : goal.invariant-loop-i
invariant-loop-i l = record {
  so_far : map register_data l.registers.items ≡ flat_map (registers_of l.device) (take l.i l.device.commands);
  placed : ArePlaces l.places (map register_data l.registers.items);
  room : vec_capacity l.registers ≡ length (first_state l.device).registers;
}
