use Rattle.pmb_device.proofs.Acks.{behind_first_start}
use Rattle.pmb_device.proofs.device_packet.DevicePacket.begin_packet.Goals as goal

pub returns : goal.returns
returns c = λ device state legs stands. behind_first_start c.args.self.now device state legs c.requires stands
