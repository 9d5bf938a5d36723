use Rattle.std.proofs.Common.{List}
use Rattle.pmb_registers.specs.State.{InState}
use Rattle.pmb_device.specs.Legs.{Legs}
use Rattle.pmb_devices.specs.machine.Standing.{AllStand}
use Rattle.pmb_devices.specs.machine.Hands.{HandsSoFar}
use Rattle.pmb_devices.proofs.bus.hand_on.Given as goal

abbrev pub invariant-loop-device : goal.invariant-loop-device
invariant-loop-device l =
    (legs : Legs) (members : List InState) → AllStand legs l.initial.devices members
    → HandsSoFar legs l.signal members l.devices l.device-index l.answer
