use Rattle.pmb_device.proofs.Addresses.{hears_own}
use Rattle.pmb_device.proofs.device_packet.DevicePacket.begin_own.Goals as goal

pub returns : goal.returns
returns c = hears_own c.args.self.now c.restart.new.self c.requires.phase c.requires.first c.restart.ensures
