use Rattle.pmb_device.proofs.Acks.{behind_ack}
use Rattle.pmb_device.proofs.device_packet.DevicePacket.ack.Goals as goal

pub returns : goal.returns
returns c = λ device state legs stands. behind_ack c.args.self.now device state legs stands
