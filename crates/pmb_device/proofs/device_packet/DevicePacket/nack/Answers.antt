use Rattle.pmb_device.proofs.Acks.{behind_last, behind_nack}
use Rattle.pmb_device.proofs.device_packet.DevicePacket.nack.Goals as goal

pub returns-in-Reply : goal.returns-in-Reply
returns-in-Reply c = λ device state legs stands. behind_last c.args.self.now device state legs c.in-Reply.is stands

pub returns-in_default : goal.returns-in_default
returns-in_default c = λ device state legs stands. behind_nack c.args.self.now device state legs c.in_default.not-Reply
    stands
