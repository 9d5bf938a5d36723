-- The reader has a record ready, and moved it into the room that it was lent.
use Rattle.std.proofs.Common.{◌≡◌, ◌≤◌, ◌∙◌, ℕ, List, Option, Some, None, ap, length, subst, sym}
use native.Mathlib.Omega.{arith}
use Rattle.pmb_capture_reader.specs.Reader.{reader_ready}
use Rattle.pmb_capture_reader.specs.Work.{DoesFor, Takes}
use Rattle.pmb_capture_reader.specs.declared.reader.CaptureReader.{CaptureReader}
use Rattle.pmb_capture_reader.specs.declared.work.Answer.{Answer}
use Rattle.pmb_capture_reader.specs.declared.work.Task.{Task}
use Rattle.pmb_capture_reader.specs.declared.work.Task.TheVariants as task
use Rattle.pmb_capture_reader.specs.declared.work.Work.{Work}
use Rattle.pmb_c.specs.Items.{items_in}
use Rattle.pmb_c.specs.Reader.{ActsHeld}
use Rattle.pmb_c.specs.declared.held.Held.{Held}
use Rattle.pmb_c.specs.declared.held.ReaderKind.TheVariants.{Items}
use Rattle.pmb_c.proofs.items.take_record.Goals as goal

one_reader : (a b : CaptureReader) → Some a ≡ Some b → a ≡ b
one_reader a b same = cc same

not_both : (a : CaptureReader) (o : Option CaptureReader) → o ≡ None → o ≡ Some a → ⊥
not_both a o none some = absurd (cc (none, some))

as_takes : (a b new : CaptureReader) (before as_before after : List ℕ) (m n : ℕ) → a ≡ b → before ≡ as_before → m ≡ n
    → Takes a before new after m → Takes b as_before new after n
as_takes a b new before as_before after m n same of_before moved takes =
    subst (λ (r : CaptureReader). Takes r as_before new after n) same
    (subst (λ (l : List ℕ). Takes a l new after n) of_before (subst (Takes a before new after) moved takes))

-- what it took, and that the room is the one that was lent
takes : (from after : Option Held) (work done : Work) (before : List ℕ) (answer : Option Answer) (old : CaptureReader)
    → work.task ≡ task.Take → work.room.now ≡ before → length before ≡ 680
    → ActsHeld (Some Items) from work after done answer → items_in from ≡ Some old
    → 680 ≤ length (reader_ready old)
    → (new : CaptureReader) × (items_in after ≡ Some new) × Takes old before new done.room.now 680
    × (done.room.ghost_name ≡ work.room.ghost_name)
takes from after work done before (Some answer) old is of_before long got is_old enough =
    let acts = got.4 in
    let same = one_reader got.0 old (sym got.2 ∙ is_old) in
    let does = subst (λ (t : Task). DoesFor t got.0 got.1 work.piece.now work.room.now done.room.now acts.answer.moved)
    is acts.does in
    let moved : acts.answer.moved ≡ 680 =
    omega (
      arith,
      does.as_many,
      ap (λ (l : List ℕ). length l) of_before,
      long,
      enough,
      ap (λ (r : CaptureReader). length (reader_ready r)) same,
    ) in (
      got.1,
      got.3,
      as_takes got.0 old got.1 work.room.now before done.room.now acts.answer.moved 680 same of_before moved
          does,
      acts.same,
    )
takes from after work done before None old is of_before long got is_old enough =
    absurd (not_both old (items_in from) got.0 is_old)

pub returns : goal.returns
returns c = λ old is_old enough.
    let took = takes c.args.handle.now.held c.act.new.handle.held c.new-work.result c.act.new.work c.args.room.now
    c.act.result old c.new-work.ensures.task (ap (λ room. room.now) c.new-work.ensures.room) c.requires c.act.ensures
    is_old enough in
    let name = sym (ap (λ room. room.ghost_name) c.new-work.ensures.room) ∙ sym took.3 in (
      took.0,
      took.1,
      subst (λ (room : List ℕ). Takes old c.args.room.now took.0 room 680) (sym (grind (arith, name))) took.2,
    )
