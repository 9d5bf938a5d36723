use Rattle.std.proofs.Common.{arith}
use Rattle.pmb_device.proofs.Addresses.{hears_others}
use Rattle.pmb_device.proofs.device_packet.DevicePacket.address.Goals as goal

pub returns-else-byte-address : goal.returns-else-byte-address
returns-else-byte-address c =
    hears_others c.args.self.now c.args.byte c.requires (λ is. c.if-self.true) (λ is. absurd (omega arith))

pub returns-else-byte-address-2 : goal.returns-else-byte-address-2
returns-else-byte-address-2 c =
    hears_others c.args.self.now c.args.byte c.requires (λ is. absurd (omega arith)) (λ is. c.if-self.false)
