use Rattle.std.proofs.Common.{◌≡◌, ◌∙◌, Option, None, Some, refl, ap, sym, subst}
use Rattle.std.specs.Prelude.{option_map}
use Rattle.std.specs.declared.boxed.Box.{Box}
use Rattle.std.specs.declared.alloc.Global.{Global}
use Rattle.pmb_bus_session.specs.declared.work.BusAnswer.{BusAnswer}
use Rattle.pmb_bus_session.specs.declared.work.BusWork.{BusWork}
use Rattle.pmb_c.specs.Bus.{ActsHeld, bus_in}
use Rattle.pmb_c.specs.declared.held.Held.{Held}
use Rattle.pmb_c.proofs.bus.act.Goals as goal
use Rattle.pmb_c.proofs.bus.act.Goals.{in-Bus, in-Profile, in-Reader}

-- what the handle held, by the box that was taken out of it
held_as : (taken : Option (Box Held Global)) (box : Box Held Global) (from : Option Held) (one : Held)
    → option_map (λ (b : Box Held Global). b.value) taken ≡ from → taken ≡ Some box → box.value ≡ one → from ≡ Some one
held_as taken box from one of_taken is_box is_one =
    sym of_taken ∙ ap (λ (o : Option (Box Held Global)). option_map (λ (b : Box Held Global). b.value) o) is_box
    ∙ ap (λ (h : Held). Some h) is_one

-- it holds something else, and keeps it
no_bus : (taken : Option (Box Held Global)) (box : Box Held Global) (from after : Option Held) (left was one : Held)
    → (work done : BusWork) → option_map (λ (b : Box Held Global). b.value) taken ≡ from → taken ≡ Some box → after ≡ Some left
    → left ≡ was → was ≡ box.value → was ≡ one → bus_in (Some one) ≡ None → done ≡ work → ActsHeld from work after done None
no_bus taken box from after left was one work done of_taken is_box of_left left_was was_value was_one none same =
    let held = held_as taken box from one of_taken is_box (sym was_value ∙ was_one) in
    (ap bus_in held ∙ none, of_left ∙ ap (λ (h : Held). Some h) (left_was ∙ was_one) ∙ sym held, same)

pub returns-clause-acts : goal.returns-clause-acts
returns-clause-acts c = elim c.match-deref_mut.branch [
  | in-Profile w ↦
      subst (λ (a : Option BusAnswer). ActsHeld c.args.handle.now.held c.args.work.now c.of.result.held c.match-deref_mut.work a)
      (sym w.answer-is)
      (no_bus c.take.result c.in_ok-held.held c.args.handle.now.held c.of.result.held c.match-deref_mut.held.value
      c.deref_mut.result.now _ c.args.work.now c.match-deref_mut.work c.take.ensures.held c.in_ok-held.was c.of.ensures
      (ap (λ (b : Box Held Global). b.value) w.held-is) c.deref_mut.ensures.value w.in-Profile.is refl w.work-is)
  | in-Reader w ↦
      subst (λ (a : Option BusAnswer). ActsHeld c.args.handle.now.held c.args.work.now c.of.result.held c.match-deref_mut.work a)
      (sym w.answer-is)
      (no_bus c.take.result c.in_ok-held.held c.args.handle.now.held c.of.result.held c.match-deref_mut.held.value
      c.deref_mut.result.now _ c.args.work.now c.match-deref_mut.work c.take.ensures.held c.in_ok-held.was c.of.ensures
      (ap (λ (b : Box Held Global). b.value) w.held-is) c.deref_mut.ensures.value w.in-Reader.is refl w.work-is)
  | in-Bus w ↦
      let from = held_as c.take.result c.in_ok-held.held c.args.handle.now.held _ c.take.ensures.held c.in_ok-held.was
      (sym c.deref_mut.ensures.value ∙ w.in-Bus.is) in
      let after = c.of.ensures ∙ ap (λ (b : Box Held Global). Some b.value) w.held-is in
      subst (λ (a : Option BusAnswer). ActsHeld c.args.handle.now.held c.args.work.now c.of.result.held c.match-deref_mut.work a)
      (sym w.answer-is)
      (subst (λ (done : BusWork). ActsHeld c.args.handle.now.held c.args.work.now c.of.result.held done (Some w.act.new.work.answer))
      (sym w.work-is) (w.in-Bus.bus.is, w.act.new.self.is, ap bus_in from, ap bus_in after, w.act.ensures.acts, refl))
]

pub returns-clause-same : goal.returns-clause-same
returns-clause-same c = elim c.match-deref_mut.branch [
  | in-Profile w ↦ ap (λ (done : BusWork). done.room.ghost_name) w.work-is
  | in-Reader w ↦ ap (λ (done : BusWork). done.room.ghost_name) w.work-is
  | in-Bus w ↦ ap (λ (done : BusWork). done.room.ghost_name) w.work-is ∙ w.act.ensures.acts.same
]
