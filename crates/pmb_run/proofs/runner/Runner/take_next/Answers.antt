use Rattle.std.proofs.Common.{◌∙◌, ℕ, List, refl, subst, arith}
use Rattle.std.proofs.lemmas.Result.{on_ok_weaker}
use Rattle.pmb_build.specs.Answer.{numbered_text}
use Rattle.pmb_io.specs.Outgoing.{PutsText}
use Rattle.pmb_line.specs.LineFault.{fault_text}
use Rattle.pmb_line.specs.declared.line_fault.LineFault.TheVariants as fault
use Rattle.pmb_run.specs.Answer.{most_request_line}
use Rattle.pmb_run.proofs.OneRequest.{next_fault, next_taken}
use Rattle.pmb_run.proofs.runner.Runner.take_next.Goals as goal

-- It is too long, and that was put out.
pub returns-then-line-gt-MOST_BYTES-clause-takes : goal.returns-then-line-gt-MOST_BYTES-clause-takes
returns-then-line-gt-MOST_BYTES-clause-takes g c members ts stands =
    let before = c.args.self.now in
    let number = c.saturating_add-self.result in
    let why = fault_text (fault.TooLong most_request_line) in
    on_ok_weaker c.take_fault.result
    (
    λ writes.
    next_fault members ts before c.take_fault.new.self number c.args.line.now why
    (g.W.Sink.told c.args.writer.now).held (g.W.Sink.told c.take_fault.new.writer).held
    c.args.waiting.now.items c.take_fault.new.waiting.items c.saturating_add-self.ensures (omega arith) refl stands
    c.take_fault.ensures.bench c.take_fault.ensures.lines c.take_fault.ensures.counted
    (subst (λ (said : List ℕ). PutsText (g.W.Sink.told c.args.writer.now).held c.args.waiting.now.items
    (g.W.Sink.told c.take_fault.new.writer).held c.take_fault.new.waiting.items (numbered_text number said))
    (c.as_slice.ensures.value ∙ c.text-fault.ensures) writes)
    )
    c.take_fault.ensures.writes

-- It is taken.
pub returns-clause-takes : goal.returns-clause-takes
returns-clause-takes g c members ts stands =
    let before = c.args.self.now in
    on_ok_weaker c.take_text.result
    (next_taken members ts before c.take_text.new.self c.saturating_add-self.result c.args.line.now _ _ _ _
    c.saturating_add-self.ensures (omega arith))
    (c.take_text.ensures.takes members ts stands)
