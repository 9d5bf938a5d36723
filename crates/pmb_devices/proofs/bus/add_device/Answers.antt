use Rattle.std.proofs.Common.{◌+◌, List, take, sym, subst}
use Rattle.pmb_device.specs.declared.device.Device.{Device}
use Rattle.pmb_device.specs.Legs.{Outside}
use Rattle.pmb_devices.specs.Runs.{first_members}
use Rattle.pmb_devices.specs.machine.Standing.{AllStand}
use Rattle.pmb_devices.proofs.Members.{first_more, none_at}
use Rattle.pmb_devices.proofs.bus.add_device.Goals as goal

pub returns-in_ok-new-clause-stand : goal.returns-in_ok-new-clause-stand
returns-in_ok-new-clause-stand c = λ stand.
    subst (λ (ds : List Device). AllStand Outside ds (first_members (take (c.args.i + 1) c.args.profile.now)))
    (sym c.push_reserved.ensures.items)
    (first_more c.args.profile.now c.args.i c.in-Some.device.now c.args.devices.now.items c.in_ok-new.field-0
    (sym c.in-Some.ensures.device) stand c.in_ok-new.ensures)

pub returns-in_default : goal.returns-in_default
returns-in_default c = absurd (none_at c.args.profile.now c.args.i c.device_at.result c.requires.within
    c.device_at.ensures.device c.in_default.not-Some)
