use Rattle.std.proofs.Common.{◌*◌, map, take}
use Rattle.std.specs.List.{flat_map}
use Rattle.pmb_transaction.specs.Transaction.{part_data}
use Rattle.pmb_note.specs.Note.{part_text_before}
use Rattle.pmb_note.specs.machine.Standing.{mode_in}
use Rattle.pmb_note.specs.machine.Written.{Appends}
use Rattle.pmb_note.proofs.context.Context.append_parts_before.Given as goal

-- the parts so far
abbrev pub invariant-loop-part : goal.invariant-loop-part
invariant-loop-part g l =
    Appends (flat_map (part_text_before l.self.profile.now (mode_in l.self))
    (map part_data (take l.part-index l.parts))) (323 * l.part-index) l.fn.out.items l.out.items
