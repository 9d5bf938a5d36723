use Rattle.pmb_device.proofs.Stopping.{stops}
use Rattle.pmb_device.proofs.device.Device.stop.Goals as goal

pub returns : goal.returns
returns c = λ standing at.
    stops c.act.new.self c.end.new.self standing (c.act.ensures standing at) c.end.ensures.ended c.end.ensures.keeps
