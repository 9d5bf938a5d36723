use Rattle.std.proofs.Common.{List, OnOk, subst, ℕ, ◌∙◌}
use Rattle.pmb_io.specs.Outgoing.{PutsText}
use Rattle.pmb_capture.proofs.tally_alone.TallyAloneOutput.put_end.Goals as goal

pub returns-clause-puts : goal.returns-clause-puts
returns-clause-puts g c =
    subst (λ (text : List ℕ). OnOk c.put.result
    (PutsText (g.W.Sink.told c.args.writer.now).held c.args.waiting.now.items (g.W.Sink.told c.put.new.writer).held
    c.put.new.waiting.items text))
    (c.as_slice.ensures.value ∙ c.tally_line-line.ensures) c.put.ensures.ok
