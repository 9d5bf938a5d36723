use Rattle.std.proofs.Common.{List, ℕ, fold, map, subst, take}
use Rattle.pmb_command.specs.Parts.{DeviceParts}
use Rattle.pmb_transaction.specs.Transaction.{part_data}
use Rattle.pmb_transaction.proofs.ByAddress.{part_more, parts_all}
use Rattle.pmb_note.specs.Paging.{PagingData, after_told, told_by_part}
use Rattle.pmb_note.specs.machine.Standing.{Keeps}
use Rattle.pmb_note.proofs.context.take_parts.Goals as goal

pub loop-part-preserved : goal.loop-part-preserved
loop-part-preserved c = λ now keeps.
    let part = c.part-item.result in
    let before : DeviceParts → PagingData = λ device. fold (after_told device) (now device)
    (map told_by_part (map part_data (take c.loop-part.part-index c.args.parts.now))) in
    part_more after_told told_by_part c.take_bytes.new.pagings c.args.profile.now now c.args.parts.now
    c.loop-part.part-index part c.loop-part-test.true c.part-item.is
    (subst (λ (bytes : List ℕ). Keeps c.take_bytes.new.pagings c.args.profile.now
    (λ device. after_told device (before device) (record { addr = part.addr; code = part.code; bytes = bytes })))
    c.as_slice.ensures.value (c.take_bytes.ensures before (c.loop-part.invariant now keeps)))

pub returns : goal.returns
returns c = λ now keeps.
    parts_all after_told told_by_part c.loop-part.pagings c.args.profile.now now c.args.parts.now c.loop-part.part-index
    c.loop-part-test.false (c.loop-part.invariant now keeps)
