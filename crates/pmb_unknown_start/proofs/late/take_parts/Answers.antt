use Rattle.std.proofs.Common.{arith, map}
use Rattle.pmb_transaction.specs.Transaction.{part_data}
use Rattle.pmb_unknown_start.specs.machine.Keeping.{kept_parts}
use Rattle.pmb_unknown_start.proofs.OfEach.{all_written}
use Rattle.pmb_unknown_start.proofs.late.take_parts.Goals as goal

pub loop-i-preserved : goal.loop-i-preserved
loop-i-preserved c = λ now keeps. c.take_parts_at.ensures now (c.loop-i.invariant now keeps)

pub returns : goal.returns
returns c = λ now keeps.
    all_written c.args.profile.now
    (λ device. kept_parts c.args.start device (map part_data c.args.parts.now) (now device)) now c.loop-i.kept c.loop-i.i
    (omega (arith, c.loop-i-test.false, c.loop-i.auto.i-end, c.len-i-end.ensures.len))
    (c.loop-i.invariant now keeps)
