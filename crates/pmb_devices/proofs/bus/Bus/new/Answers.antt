use Rattle.std.proofs.Common.{refl, List, subst, arith}
use Rattle.std.proofs.lemmas.List.{take_all}
use Rattle.pmb_command.specs.Parts.{DeviceParts}
use Rattle.pmb_device.specs.Legs.{Outside}
use Rattle.pmb_devices.specs.Runs.{first_members}
use Rattle.pmb_devices.specs.machine.Standing.{AllStand}
use Rattle.pmb_devices.proofs.Runs.{first_devices}
use Rattle.pmb_devices.proofs.bus.Bus.new.Goals as goal

pub returns : goal.returns
returns c = record {
  exact = omega (arith, c.loop-i.invariant.count, c.loop-i.invariant.room, c.len-i-end.ensures.len, c.loop-i-test.false);
  accepted = c.accepted_bus.ensures;
  profile = first_devices c.args.profile.now;
  listens = c.some_listens.ensures;
  runs = refl;
  devices = subst (λ (ds : List DeviceParts). AllStand Outside c.loop-i.devices.items (first_members ds))
      (take_all c.loop-i.i c.args.profile.now (omega (arith, c.len-i-end.ensures.len, c.loop-i-test.false)))
      c.loop-i.invariant.stand;
  answered = tt;
}
