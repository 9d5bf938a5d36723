use Rattle.std.proofs.Common.{List, take}
use Rattle.pmb_command.specs.Parts.{DeviceParts}
use Rattle.pmb_registers.specs.State.{InState}
use Rattle.pmb_device.specs.Legs.{Legs}
use Rattle.pmb_devices.specs.Stops.{TakesEach}
use Rattle.pmb_devices.specs.machine.Others.{IsAt, Went}
use Rattle.pmb_devices.proofs.others.take_each.Given as goal

abbrev pub invariant-loop-address : goal.invariant-loop-address
invariant-loop-address l =
    (bus : List DeviceParts) (legs : Legs) (before : List InState) (member : InState) (behind : List InState)
    → IsAt bus legs l.initial.devices l.i before member behind
    → Went legs l.devices before member behind
    (TakesEach bus legs member.device (take l.address-index member.device.also) member.state)
