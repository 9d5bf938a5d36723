use Rattle.std.proofs.Common.{◌∙◌, ℕ, List, refl, sym, subst}
use Rattle.std.proofs.lemmas.Result.{on_ok_weaker}
use Rattle.pmb_build.specs.Answer.{numbered_text}
use Rattle.pmb_io.specs.Lines.{line_text}
use Rattle.pmb_io.specs.Outgoing.{PutsText}
use Rattle.pmb_io.specs.declared.input_line.InputLine.{InputLine}
use Rattle.pmb_devices.specs.Runs.{all_after, first_members}
use Rattle.pmb_line.specs.LineFault.{fault_text}
use Rattle.pmb_line.specs.declared.line_fault.LineFault.TheVariants as fault
use Rattle.pmb_run.specs.Answer.{Refusal, RunsLine, most_request_line}
use Rattle.pmb_run.specs.machine.Bench.{bench_profile}
use Rattle.pmb_run.proofs.RequestLines.{fault_more, puts_more, recorded_so_far}
use Rattle.pmb_run.proofs.runner.RunnerLineTask.take_line.Goals as goal

pub returns-in-Ended-clause-takes : goal.returns-in-Ended-clause-takes
returns-in-Ended-clause-takes g c start given text stands =
    let before = c.args.self.now in
    let ts = recorded_so_far start before given text stands in
    on_ok_weaker c.take_text.result
    (puts_more start before _ c.take_text.new.self given text (line_text c.args.line) c.in-Ended.text.now _ _ _ _ refl
    c.saturating_add-self.ensures refl stands
    (λ answer answers. subst (λ (line : InputLine). RunsLine (bench_profile before.bench) ts (line_text line) answer)
    (sym c.in-Ended.is) answers))
    (c.take_text.ensures.takes (all_after ts (first_members (bench_profile before.bench))) ts stands.stands)

pub returns-in-Last-clause-takes : goal.returns-in-Last-clause-takes
returns-in-Last-clause-takes g c start given text stands =
    let before = c.args.self.now in
    let ts = recorded_so_far start before given text stands in
    on_ok_weaker c.take_text-in-Last.result
    (puts_more start before _ c.take_text-in-Last.new.self given text (line_text c.args.line) c.in-Last.text.now _ _ _ _
    refl c.saturating_add-self.ensures refl stands
    (λ answer answers. subst (λ (line : InputLine). RunsLine (bench_profile before.bench) ts (line_text line) answer)
    (sym c.in-Last.is) answers))
    (c.take_text-in-Last.ensures.takes (all_after ts (first_members (bench_profile before.bench))) ts stands.stands)

-- Its fault was put out.
pub returns-in-TooLong-clause-takes : goal.returns-in-TooLong-clause-takes
returns-in-TooLong-clause-takes g c start given text stands =
    let before = c.args.self.now in
    let ts = recorded_so_far start before given text stands in
    let why = fault_text (fault.TooLong most_request_line) in
    on_ok_weaker c.take_fault.result
    (
    λ writes.
    fault_more start before c.take_fault.new.self given text (line_text c.args.line) why c.saturating_add-self.result
    (g.W.Sink.told c.args.writer.now).held c.args.waiting.now.items
    (g.W.Sink.told c.take_fault.new.writer).held c.take_fault.new.waiting.items c.saturating_add-self.ensures
    c.take_fault.ensures.bench c.take_fault.ensures.lines c.take_fault.ensures.counted stands
    (subst (λ (line : InputLine). RunsLine (bench_profile before.bench) ts (line_text line) (Refusal why))
    (sym c.in-TooLong.is) refl)
    (subst
    (
    λ (said : List ℕ).
    PutsText (g.W.Sink.told c.args.writer.now).held c.args.waiting.now.items
    (g.W.Sink.told c.take_fault.new.writer).held c.take_fault.new.waiting.items
    (numbered_text c.saturating_add-self.result said)
    ) (c.as_slice.ensures.value ∙ c.text-fault.ensures) writes)
    )
    c.take_fault.ensures.writes
