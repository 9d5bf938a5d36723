use Rattle.std.proofs.Common.{fold, map, take}
use Rattle.pmb_command.specs.Parts.{DeviceParts}
use Rattle.pmb_transaction.specs.Transaction.{part_data}
use Rattle.pmb_note.specs.Paging.{PagingData, after_told, told_by_part}
use Rattle.pmb_note.specs.machine.Standing.{Keeps}
use Rattle.pmb_note.proofs.context.take_parts.Given as goal

-- after the parts so far
abbrev pub invariant-loop-part : goal.invariant-loop-part
invariant-loop-part l =
    (now : DeviceParts → PagingData) → Keeps l.fn.pagings l.profile now
    → Keeps l.pagings l.profile (λ device. fold (after_told device) (now device)
    (map told_by_part (map part_data (take l.part-index l.parts))))
