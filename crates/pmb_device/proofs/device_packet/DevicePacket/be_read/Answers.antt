use Rattle.pmb_device.proofs.ReadAddresses.{hears_no_request, hears_request}
use Rattle.pmb_device.proofs.device_packet.DevicePacket.be_read.Goals as goal

pub returns-else-asked : goal.returns-else-asked
returns-else-asked c = hears_no_request c.args.self.now c.requires.phase c.requires.own
    (c.is_asked-asked.ensures.not_asked c.if-asked.false)

pub returns-then-asked : goal.returns-then-asked
returns-then-asked c = hears_request c.args.self.now c.requires.phase c.requires.own
    (c.is_asked-asked.ensures.asked c.if-asked.true)
