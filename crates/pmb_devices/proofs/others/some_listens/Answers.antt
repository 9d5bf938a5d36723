use Rattle.std.proofs.Common.{◌∙◌, sym, arith}
use Rattle.pmb_devices.proofs.Members.{none_at}
use Rattle.pmb_devices.proofs.OtherWrites.{none_listens_at, some_listens_at}
use Rattle.pmb_devices.proofs.others.some_listens.Goals as goal
use Rattle.pmb_devices.proofs.others.some_listens.Goals.{in-Some+else-listens, in_default}

pub returns-then-listens : goal.returns-then-listens
returns-then-listens c =
    sym (some_listens_at c.args.profile.now c.loop-i.i c.in-Some.device.now (sym c.in-Some.ensures.device)
    (sym c.listens.ensures ∙ c.if-listens.true))

pub loop-i-preserved : goal.loop-i-preserved
loop-i-preserved c =
    elim c.match-device_at.branch [
      | in-Some+else-listens w ↦
          none_listens_at c.args.profile.now c.loop-i.i w.in-Some.device.now (sym w.in-Some.ensures.device)
          (sym w.listens.ensures ∙ w.if-listens.false) c.loop-i.invariant
      | in_default w ↦
          absurd (none_at c.args.profile.now c.loop-i.i c.device_at.result
          (omega (arith, c.len-i-end.ensures.len, c.loop-i-test.true)) c.device_at.ensures.device
          w.in_default.not-Some)
    ]
