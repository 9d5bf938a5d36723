use Rattle.std.proofs.Common.{arith}
use Rattle.pmb_line.proofs.Writings.{first_and_rest, parts_text}
use Rattle.pmb_line.proofs.line_text.append_parts.Goals as goal

pub returns-clause-text : goal.returns-clause-text
returns-clause-text g c =
    parts_text c.args.out.now.items c.append_part.new.out.items c.loop-part.out.items c.args.parts.now
    c.first-item.result _ c.loop-part.part-index
    (first_and_rest c.args.parts.now c.first-item.result c.in-len1-up.len_at_least c.first-item.is)
    c.append_part.ensures.text c.loop-part.invariant.text (omega arith)
