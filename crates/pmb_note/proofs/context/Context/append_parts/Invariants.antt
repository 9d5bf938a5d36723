use Rattle.std.proofs.Common.{◌+◌, ◌*◌, ◌≤◌, length, map, take}
use Rattle.std.specs.List.{flat_map}
use Rattle.pmb_transaction.specs.Transaction.{part_data}
use Rattle.pmb_note.specs.Note.{part_text}
use Rattle.pmb_note.specs.machine.Standing.{mode_in}
use Rattle.pmb_note.specs.machine.Written.{Appends}
use Rattle.pmb_note.proofs.Texts.{part_behind}
use Rattle.pmb_note.proofs.context.Context.append_parts.Given as goal

-- the parts so far
abbrev pub invariant-loop-part : goal.invariant-loop-part
invariant-loop-part g l = record {
  text : Appends (flat_map (part_behind (part_text l.self.profile.now (mode_in l.self)))
      (map part_data (take l.part-index l.rest))) (323 * l.part-index) l.initial.out.items l.out.items;
  room : length l.out.items ≤ length l.fn.out.items + 320 + 323 * l.part-index;
}
