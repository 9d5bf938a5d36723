use Rattle.std.proofs.Common.{refl}
use Rattle.pmb_device.proofs.Writing.{refuses_data, takes_data}
use Rattle.pmb_device.proofs.device_packet.DevicePacket.data_byte.Goals as goal

pub returns-then-take_byte : goal.returns-then-take_byte
returns-then-take_byte c = takes_data c.args.self.now c.args.byte c.take_byte.new.leg c.requires
    c.if-take_byte.ensures.takes (c.if-take_byte.ensures.taken refl)

pub returns : goal.returns
returns c = refuses_data c.args.self.now c.args.byte c.take_byte.new.leg c.refusal_noted-self.result c.requires
    c.if-take_byte.ensures.takes (c.if-take_byte.ensures.refused refl) (c.refusal_noted-self.ensures c.args.byte)
