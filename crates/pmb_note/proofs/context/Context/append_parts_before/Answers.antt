use Rattle.std.proofs.Common.{◌+◌, ◌*◌, arith}
use Rattle.pmb_note.specs.Note.{part_text_before}
use Rattle.pmb_note.specs.machine.Standing.{mode_in}
use Rattle.pmb_note.proofs.Texts.{at_most, called, more_parts, then}
use Rattle.pmb_note.proofs.context.Context.append_parts_before.Goals as goal

pub loop-part-preserved : goal.loop-part-preserved
loop-part-preserved g c =
    let text = part_text_before c.args.self.now.profile.now (mode_in c.args.self.now) in
    called (more_parts text c.args.parts.now c.loop-part.part-index c.part-item.result c.loop-part-test.true
    c.part-item.is)
    (at_most (323 * (c.loop-part.part-index + 1)) (omega arith)
    (then c.loop-part.invariant (then c.append_part.ensures c.append.ensures)))
