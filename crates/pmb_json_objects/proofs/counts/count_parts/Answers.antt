use Rattle.std.proofs.Common.{take}
use Rattle.pmb_json_objects.specs.Counts.{sum_of}
use Rattle.pmb_json_objects.proofs.Counting.{alike, none_more, part_more, parts_all, writes_of}
use Rattle.pmb_json_objects.proofs.counts.count_parts.Goals as goal

pub loop-part-init : goal.loop-part-init
loop-part-init c = λ each counts. alike c.args.devices.now each _ (λ addr. none_more (each addr)) counts

pub loop-part-preserved : goal.loop-part-preserved
loop-part-preserved c = λ each counts.
    part_more c.count_at.new.devices each c.args.parts.now c.loop-part.part-index c.part-item.result
    c.loop-part-test.true c.part-item.is
    (c.count_at.ensures (λ addr. sum_of (each addr) (writes_of (take c.loop-part.part-index c.args.parts.now) addr))
    (c.loop-part.invariant each counts))

pub returns : goal.returns
returns c = λ each counts. parts_all c.loop-part.devices each c.args.parts.now c.loop-part.part-index
    c.loop-part-test.false (c.loop-part.invariant each counts)
