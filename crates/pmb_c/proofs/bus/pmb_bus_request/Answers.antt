use Rattle.std.proofs.Common.{◌∙◌, List, ℕ, ap, subst}
use Rattle.pmb_bus_session.specs.Session.{Requests}
use Rattle.pmb_bus_session.specs.Work.{ActsFor}
use Rattle.pmb_bus_session.specs.declared.work.BusAnswer.{BusAnswer}
use Rattle.pmb_bus_session.specs.declared.work.BusTask.{BusTask}
use Rattle.pmb_c.specs.Bus.{Ran, Closed}
use Rattle.pmb_c.proofs.bus.pmb_bus_request.Goals as goal
use Rattle.pmb_c.proofs.bus.pmb_bus_request.Goals.{in-Some, in-None}

pub returns-clause-runs : goal.returns-clause-runs
returns-clause-runs c = elim c.match-act.branch [
  | in-Some w ↦
      let got = w.in-Some.ensures.acts in
      Ran got.0 got.1 w.in-Some.answer got.2 got.3
      (subst (λ (line : List ℕ). Requests line got.0 got.1 w.in-Some.answer) (ap (λ line. line.now) c.new-work.ensures.line)
      (subst (λ (answer : BusAnswer). Requests c.new-work.result.line.now got.0 got.1 answer) got.5
      (subst (λ (asked : BusTask). ActsFor asked got.0 got.1 c.new-work.result c.act.new.work) c.new-work.ensures.task
      got.4.acts).0))
      (w.told-is ∙ w.told_of_request.ensures)
  | in-None w ↦
      Closed w.in-None.ensures.acts.0 w.in-None.ensures.acts.1 (w.told-is ∙ w.of_status.ensures)
]
