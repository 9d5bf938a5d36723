use Rattle.std.proofs.Common.{refl}
use Rattle.pmb_device.proofs.ReadAddresses.{hears_answer, reply_to_body}
use Rattle.pmb_device.proofs.device_packet.DevicePacket.reply.Goals as goal

pub returns : goal.returns
returns c = λ device state legs byte body asked ok.
    hears_answer c.args.self.now _ device state legs byte body asked c.args.self.now.noted
    (record { device = refl; place = refl; own = refl; refused = refl; read = refl; leg = refl; noted_is = refl })
    c.args.content.now ok asked.not_noted
    (reply_to_body c.args.self.now device state legs byte body asked c.args.content.now _ c.put_reply.ensures)
    refl refl refl
