use Rattle.std.proofs.Common.{subst}
use Rattle.std.proofs.lemmas.Result.{on_ok_weaker}
use Rattle.pmb_io.specs.Outgoing.{PutsText}
use Rattle.pmb_convert.proofs.answer.put_fault.Goals as goal

pub returns-clause-ok : goal.returns-clause-ok
returns-clause-ok g c =
    on_ok_weaker c.put-2.result
    (λ writes. c.texts_add_up.ensures.both _ _ _ _ _ _ _ _ c.in_ok-put.ensures.ok
    (subst (λ t. PutsText (g.W.Sink.told c.put.new.writer).held c.put.new.waiting.items
    (g.W.Sink.told c.put-2.new.writer).held c.put-2.new.waiting.items t) c.name.ensures writes))
    c.put-2.ensures.ok
