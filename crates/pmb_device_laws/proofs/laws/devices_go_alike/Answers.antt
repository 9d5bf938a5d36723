use Rattle.pmb_device.specs.Device.{DeviceStandsAt, Moves}
use Rattle.pmb_device_laws.proofs.Alike.{go_alike}
use Rattle.pmb_device_laws.proofs.Devices.{one_move}
use Rattle.pmb_device_laws.proofs.laws.devices_go_alike.Goals as goal

pub returns : goal.returns
returns c =
    go_alike DeviceStandsAt Moves
    (λ before standing signal result other one second. one_move standing one second before signal result other)
