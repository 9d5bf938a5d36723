use Rattle.std.proofs.Common.{Bor, List, [], ◌∷◌, ◌++◌, subst, sym}
use Rattle.pmb_command.specs.Parts.{DeviceParts}
use Rattle.pmb_note.specs.Context.{HasSeen}
use Rattle.pmb_transaction.specs.Transaction.{transaction_data}
use Rattle.pmb_capture.proofs.packet_lines.PacketLinesOutput.put_packet.Goals as goal

pub returns-clause-stands : goal.returns-clause-stands
returns-clause-stands g c before stands =
    let after = before ++ transaction_data c.args.transaction.now ∷ [] in
    let seen = subst (λ (profile : Bor (List DeviceParts)). HasSeen c.append_transaction.new.self.context profile.now
    after) (sym c.append_transaction.ensures.profile) (c.append_transaction.ensures.seen before stands) in
    seen
