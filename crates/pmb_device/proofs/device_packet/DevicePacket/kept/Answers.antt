use Rattle.pmb_device.proofs.TookWrites.{kept_few, kept_so}
use Rattle.pmb_device.proofs.device_packet.DevicePacket.kept.Goals as goal

pub returns-clause-took : goal.returns-clause-took
returns-clause-took c = λ device legs keeps.
    kept_so c.args.self.now device legs c.says.result c.says.ensures.some c.says.ensures.says keeps

pub returns-clause-few : goal.returns-clause-few
returns-clause-few c = kept_few _ _ c.says.result c.says.ensures.says
