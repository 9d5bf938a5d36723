use Rattle.pmb_devices.specs.Signal.{BusStandsAt, BusTakes}
use Rattle.pmb_device_laws.proofs.Alike.{go_alike}
use Rattle.pmb_device_laws.proofs.Buses.{one_bus_move}
use Rattle.pmb_device_laws.proofs.laws.buses_go_alike.Goals as goal

pub returns : goal.returns
returns c =
    go_alike BusStandsAt BusTakes
    (λ before standing signal result other one second stands.
    one_bus_move before standing stands one second signal result other)
