use Rattle.std.proofs.Common.{◌≡◌, ◌∙◌, ℕ, List, rules, subst}
use Rattle.std.proofs.lemmas.Result.{on_ok_weaker}
use Rattle.pmb_build.specs.Answer.{numbered_text}
use Rattle.pmb_io.specs.Outgoing.{PutsText}
use Rattle.pmb_io.proofs.Writing.{writes_nothing}
use Rattle.pmb_line.specs.declared.line_fault.LineFault.TheVariants as line_fault
use Rattle.pmb_request.specs.RequestFault.{IsRequestFault, fault_text}
use Rattle.pmb_request.specs.declared.request_fault.RequestFault.{RequestFault}
use Rattle.pmb_request.specs.declared.request_fault.RequestFault.TheVariants.{Line}
use Rattle.pmb_run.proofs.OneRequest.{blank_taken, fault_taken, line_refused}
use Rattle.pmb_run.proofs.runner.Runner.take_text.Goals as goal

-- The line has no words.
pub returns-then-eq-clause-takes : goal.returns-then-eq-clause-takes
returns-then-eq-clause-takes g c members ts stands =
    let line = c.args.line.now in
    let is_blank : c.in-Err.fault ≡ Line line_fault.Blank = search (rules, c.eq.ensures, c.if-eq.true) in
    blank_taken members ts c.args.self.now line _ _
    (subst (λ (fault : RequestFault). IsRequestFault line fault) is_blank c.in-Err.ensures.err) stands
    (writes_nothing _ _)

-- The line has words, and their fault was put out.
pub returns-else-eq-clause-takes : goal.returns-else-eq-clause-takes
returns-else-eq-clause-takes g c members ts stands =
    let before = c.args.self.now in
    on_ok_weaker c.take_fault.result
    (
    λ writes.
    fault_taken members ts before c.take_fault.new.self c.args.line.now (fault_text c.in-Err.fault)
    (g.W.Sink.told c.args.writer.now).held (g.W.Sink.told c.take_fault.new.writer).held
    c.args.waiting.now.items c.take_fault.new.waiting.items
    (line_refused ts before.bench c.args.line.now c.in-Err.fault c.in-Err.ensures.err
    (λ blank. search (rules, c.eq.ensures, c.if-eq.false, blank))) stands
    c.take_fault.ensures.bench c.take_fault.ensures.lines c.take_fault.ensures.counted
    (subst (λ (why : List ℕ). PutsText (g.W.Sink.told c.args.writer.now).held c.args.waiting.now.items
    (g.W.Sink.told c.take_fault.new.writer).held c.take_fault.new.waiting.items (numbered_text before.lines why))
    (c.as_slice.ensures.value ∙ c.text.ensures) writes)
    )
    c.take_fault.ensures.writes
