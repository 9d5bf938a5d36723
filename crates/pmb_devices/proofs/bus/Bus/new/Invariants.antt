use Rattle.std.proofs.Common.{◌≡◌, length, take}
use Rattle.std.specs.Prelude.{vec_capacity}
use Rattle.pmb_device.specs.Legs.{Outside}
use Rattle.pmb_devices.specs.Runs.{first_members}
use Rattle.pmb_devices.specs.machine.Standing.{AllStand}
use Rattle.pmb_devices.proofs.bus.Bus.new.Given as goal

abbrev pub invariant-loop-i : goal.invariant-loop-i
invariant-loop-i l = record {
  stand : AllStand Outside l.devices.items (first_members (take l.i l.profile));
  count : length l.devices.items ≡ l.i;
  room : vec_capacity l.devices ≡ length l.profile;
}
