use Rattle.std.proofs.Common.{subst, sym, arith}
use Rattle.pmb_devices.specs.machine.Hands.{HandsSoFar}
use Rattle.pmb_devices.proofs.Handing.{none_yet, next_takes, handed_on}
use Rattle.pmb_devices.proofs.bus.hand_on.Goals as goal

pub loop-device-init : goal.loop-device-init
loop-device-init c = λ legs members stand. none_yet legs c.args.signal members c.args.devices.now stand

pub loop-device-preserved : goal.loop-device-preserved
loop-device-preserved c = λ legs members stand.
    let l = c.loop-device in
    subst (HandsSoFar legs c.args.signal members _ _) (sym c.or_else-answer.ensures)
    (next_takes legs c.args.signal members l.devices l.device-index l.answer c.on.result c.device-item.result
    c.on.new.self (l.invariant legs members stand)
    (omega (arith, c.loop-device-test.true, l.auto.devices)) c.on.ensures)

pub returns : goal.returns
returns c = λ legs members stand.
    handed_on legs c.args.signal members c.loop-device.devices c.loop-device.device-index c.loop-device.answer
    (c.loop-device.invariant legs members stand) (omega arith)
