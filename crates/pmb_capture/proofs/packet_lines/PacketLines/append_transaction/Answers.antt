use Rattle.std.proofs.Common.{ap, length, arith, length-append}
use Rattle.pmb_line.specs.Spelling.{line}
use Rattle.pmb_note.specs.Note.{note}
use Rattle.pmb_transaction.specs.Transaction.{transaction_data}
use Rattle.pmb_capture.proofs.Texts.{noted}
use Rattle.pmb_capture.proofs.packet_lines.PacketLines.append_transaction.Goals as goal

pub returns-clause-line : goal.returns-clause-line
returns-clause-line c before seen =
    let profile = c.args.self.now.profile.now in
    let t = transaction_data c.args.transaction.now in
    noted (line t) (note profile before t) _ _ _ _ _ c.append_line.ensures.line c.append.ensures
    (c.append_note.ensures.note profile before seen) c.append-2.ensures

pub returns-clause-seen : goal.returns-clause-seen
returns-clause-seen c before = c.observe.ensures c.args.self.now.profile.now before

-- there is room for each
pub append_line-requires : goal.append_line-requires
append_line-requires c = omega arith

pub append-requires : goal.append-requires
append-requires c = omega arith

pub append_note-requires : goal.append_note-requires
append_note-requires c = omega (arith, simp length-append at (ap length c.append.ensures))

pub append-requires-2 : goal.append-requires-2
append-requires-2 c = omega (arith, simp length-append at (ap length c.append.ensures))
