-- The transaction that the reader lends is the one that was read last.
use Rattle.std.proofs.Common.{OnOk, [], ◌∷◌, ◌++◌, subst, sym}
use Rattle.pmb_io.specs.Engines.{PutsOut}
use Rattle.pmb_scan.specs.Reached.{behind_packet}
use Rattle.pmb_transaction.specs.Packet.{Packet}
use Rattle.pmb_scan.proofs.scan.Scan.visit_packet.Goals as goal

pub returns-clause-visits : goal.returns-clause-visits
returns-clause-visits g c start reached text n front event visited spells standing packet =
    subst (λ t. OnOk c.visit_packet.result (PutsOut
    (λ more. g.V.Visitor.Stands start c.visit_packet.new.self (behind_packet reached n front event t)
    (text ++ more)) (g.W.Sink.told c.args.writer.now).held c.args.waiting.now.items
    (g.W.Sink.told c.visit_packet.new.writer).held c.visit_packet.new.waiting.items))
    c.packet.ensures
    (c.visit_packet.ensures.visits start reached text n front event visited spells standing
    (subst (λ t. Packet reached.profile t (front ++ event ∷ [])) (sym c.packet.ensures) packet))
