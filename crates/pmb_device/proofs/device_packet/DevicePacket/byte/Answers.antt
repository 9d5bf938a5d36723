use Rattle.pmb_device.proofs.Hearing.{hears_nothing}
use Rattle.pmb_device.proofs.device_packet.DevicePacket.byte.Goals as goal

pub returns-in-Outside : goal.returns-in-Outside
returns-in-Outside c = hears_nothing c.args.self.now c.args.byte c.in-Outside.is
