use Rattle.pmb_registers.proofs.StatusCodes.{all_status}
use Rattle.pmb_registers.proofs.forms.status_codes.Goals as goal

pub returns : goal.returns
returns c = all_status c.args.device.now c.loop-i.i c.loop-i.codes.items c.accepted_device.ensures c.loop-i-test.false
    c.loop-i.invariant
