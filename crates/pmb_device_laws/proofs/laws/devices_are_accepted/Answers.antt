use Rattle.pmb_device_laws.proofs.Devices.{is_accepted}
use Rattle.pmb_device_laws.proofs.laws.devices_are_accepted.Goals as goal

pub returns : goal.returns
returns c = is_accepted
