-- The transaction that is lent is the one that was taken last.
use Rattle.std.proofs.Common.{OnOk, ◌++◌, subst, sym}
use Rattle.pmb_io.specs.Engines.{PutsOut}
use Rattle.pmb_scan.specs.Reached.{IsWhole, behind_whole}
use Rattle.pmb_scan.proofs.scan.Scan.visit_whole.Goals as goal

pub returns-clause-visits : goal.returns-clause-visits
returns-clause-visits g c start reached text n events visited between spells standing whole counted =
    subst (λ t. OnOk c.visit_whole.result (PutsOut
    (λ more. g.V.Visitor.Stands start c.visit_whole.new.self (behind_whole reached n c.args.bytes.now events t)
    (text ++ more)) (g.W.Sink.told c.args.writer.now).held c.args.waiting.now.items
    (g.W.Sink.told c.visit_whole.new.writer).held c.visit_whole.new.waiting.items))
    c.packet.ensures
    (c.visit_whole.ensures.visits start reached text n events visited between spells standing
    (subst (λ t. IsWhole reached.profile t events c.args.bytes.now) (sym c.packet.ensures) whole) counted)
