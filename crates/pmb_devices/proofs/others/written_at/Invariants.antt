use Rattle.std.proofs.Common.{◌≢◌, List, take}
use Rattle.std.specs.List.{AllByRecursion}
use Rattle.pmb_registers.specs.State.{InState}
use Rattle.pmb_device.specs.Legs.{Legs}
use Rattle.pmb_devices.specs.machine.Others.{AllEnded}
use Rattle.pmb_devices.proofs.others.written_at.Given as goal

abbrev pub invariant-loop-device : goal.invariant-loop-device
invariant-loop-device l = (legs : Legs) (members : List InState) → AllEnded legs l.devices members
    → AllByRecursion (λ m. m.device.address ≢ l.address) (take l.device-index members)
