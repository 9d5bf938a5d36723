use Rattle.std.proofs.Common.{refl, arith}
use Rattle.pmb_devices.specs.machine.Others.{devices_of}
use Rattle.pmb_devices.proofs.OtherWrites.{next_takes, none_took, taken_by_all}
use Rattle.pmb_devices.proofs.others.take_others.Goals as goal

pub loop-i-init : goal.loop-i-init
loop-i-init c = λ legs members ended. none_took (devices_of members) legs members refl c.args.devices.now ended

pub loop-i-preserved : goal.loop-i-preserved
loop-i-preserved c = λ legs members ended.
    next_takes (devices_of members) legs members refl c.loop-i.devices c.take_each.new.devices c.loop-i.i
    (c.loop-i.invariant legs members ended) (omega arith)
    (λ before member behind at. c.take_each.ensures (devices_of members) legs before member behind at)

pub returns : goal.returns
returns c = λ legs members ended.
    taken_by_all (devices_of members) legs members refl c.loop-i.devices c.loop-i.i (c.loop-i.invariant legs members ended)
    (omega arith)
