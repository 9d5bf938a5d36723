use Rattle.std.proofs.Common.{◌≡◌, ◌∙◌, Option, List, ℕ, refl, ap, sym, subst, length}
use Rattle.std.specs.Option.{unwrap_or}
use native.Mathlib.Omega.{arith}
use Rattle.pmb_capture_reader.specs.Work.{DoesFor, Takes, ready_for}
use Rattle.pmb_capture_reader.specs.declared.work.Answer.{Answer}
use Rattle.pmb_capture_reader.specs.declared.work.Task.{Task}
use Rattle.pmb_c.specs.Reader.{Taken}
use Rattle.pmb_c.proofs.reader.pmb_reader_take.Goals as goal

-- the reader moved text into the room that it was lent
pub returns-in-Some : goal.returns-in-Some
returns-in-Some c =
    let got = c.in-Some.ensures in
    let acts = got.4 in
    let does = subst (λ (t : Task). DoesFor t got.0 got.1 c.new-work.result.piece.now c.new-work.result.room.now
    c.act.new.work.room.now acts.answer.moved) c.new-work.ensures.task acts.does in
    let is = ap (λ (o : Option Answer). unwrap_or o c.in-Some.answer) (sym acts.answered ∙ got.5) in
    let answered = subst (λ (a : Answer). Takes got.0 c.new-work.result.room.now got.1 c.act.new.work.room.now a.moved) is does in
    let of_room = subst (λ (before : List ℕ). Takes got.0 before got.1 c.act.new.work.room.now c.in-Some.answer.moved)
    (ap (λ room. room.now) c.new-work.ensures.room) answered in
    let ready = subst (λ (t : Task). acts.answer.ready ≡ length (ready_for t got.0 got.1)) c.new-work.ensures.task acts.ready in
    let name = sym (ap (λ room. room.ghost_name) c.new-work.ensures.room) ∙ sym acts.same in
    Taken got.0 got.1 c.in-Some.answer got.2 got.3
    (subst (λ (room : List ℕ). Takes got.0 c.args.room.now got.1 room c.in-Some.answer.moved) (sym (grind (arith, name))) of_room)
    (sym (ap (λ (a : Answer). a.ready) is) ∙ ready) (sym (ap (λ (a : Answer). a.tally) is) ∙ acts.tally)
    c.told_of_taken.ensures refl
