use Rattle.pmb_device.proofs.Acks.{behind_later_start}
use Rattle.pmb_device.proofs.device_packet.DevicePacket.begin_later.Goals as goal

pub returns : goal.returns
returns c = λ device state legs stands. behind_later_start c.args.self.now device state legs _ c.requires
    c.is_own_first-self.ensures stands
