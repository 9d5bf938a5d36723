use Rattle.std.proofs.Common.{◌∙◌, List, ℕ, refl, ap, sym, subst}
use native.Mathlib.Omega.{arith}
use Rattle.pmb_bus_session.specs.Session.{MovesText}
use Rattle.pmb_bus_session.specs.Work.{ActsFor}
use Rattle.pmb_bus_session.specs.declared.work.BusAnswer.{BusAnswer}
use Rattle.pmb_bus_session.specs.declared.work.BusTask.{BusTask}
use Rattle.pmb_c.specs.Bus.{Taken}
use Rattle.pmb_c.proofs.bus.pmb_bus_events.Goals as goal

-- the session moved text into the room that it was lent
pub returns-in-Some : goal.returns-in-Some
returns-in-Some c =
    let got = c.in-Some.ensures.acts in
    let moves = subst (λ (asked : BusTask). ActsFor asked got.0 got.1 c.new-work.result c.act.new.work)
    c.new-work.ensures.task got.4.acts in
    let of_room = subst (λ (before : List ℕ). MovesText before c.act.new.work.room.now got.0 got.1 c.act.new.work.answer)
    (ap (λ room. room.now) c.new-work.ensures.room) moves in
    let answered = subst (λ (answer : BusAnswer). MovesText c.args.room.now c.act.new.work.room.now got.0 got.1 answer)
    got.5 of_room in
    let name = sym (ap (λ room. room.ghost_name) c.new-work.ensures.room) ∙ sym c.act.ensures.same in
    Taken got.0 got.1 c.in-Some.answer got.2 got.3
    (subst (λ (room : List ℕ). MovesText c.args.room.now room got.0 got.1 c.in-Some.answer) (sym (grind (arith, name))) answered)
    c.told_of_events.ensures refl
