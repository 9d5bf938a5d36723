use Rattle.std.proofs.Common.{refl}
use Rattle.pmb_device.proofs.ReadAddresses.{hears_refusal}
use Rattle.pmb_device.proofs.device_packet.DevicePacket.refuse.Goals as goal

pub returns : goal.returns
returns c = λ device state legs byte body asked err.
    hears_refusal c.args.self.now _ device state legs byte body asked _
    (record { device = refl; place = refl; own = refl; refused = refl; read = refl; leg = refl; noted_is = refl })
    c.args.bit err refl refl
