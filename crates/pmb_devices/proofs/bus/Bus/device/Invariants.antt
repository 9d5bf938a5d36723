use Rattle.std.proofs.Common.{◌≢◌, take}
use Rattle.std.specs.List.{AllByRecursion}
use Rattle.pmb_devices.specs.Signal.{BusStanding, BusStandsAt}
use Rattle.pmb_devices.proofs.bus.Bus.device.Given as goal

abbrev pub invariant-loop-device : goal.invariant-loop-device
invariant-loop-device l = (standing : BusStanding) → BusStandsAt l.self standing
    → AllByRecursion (λ member. member.device.address ≢ l.address) (take l.device-index standing.members)
