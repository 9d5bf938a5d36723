use Rattle.std.proofs.Common.{◌≡◌, ◌∙◌, Bool, true, false, Option, None, Some, refl, ap, sym, subst}
use Rattle.std.specs.Prelude.{option_map}
use Rattle.std.specs.declared.boxed.Box.{Box}
use Rattle.std.specs.declared.alloc.Global.{Global}
use Rattle.pmb_capture_reader.specs.declared.reader.CaptureReader.{CaptureReader}
use Rattle.pmb_capture_reader.specs.declared.work.Answer.{Answer}
use Rattle.pmb_capture_reader.specs.declared.work.Work.{Work}
use Rattle.pmb_open_reader.specs.Acts.{ActsIn}
use Rattle.pmb_c.specs.Asked.{ActsAs, is_asked}
use Rattle.pmb_c.specs.Reader.{ActsHeld, kind_in, reader_asked, reader_if}
use Rattle.pmb_c.specs.declared.held.Held.{Held}
use Rattle.pmb_c.specs.declared.held.Held.TheVariants as held
use Rattle.pmb_c.specs.declared.held.HeldReader.{HeldReader}
use Rattle.pmb_c.specs.declared.held.ReaderKind.{ReaderKind}
use Rattle.pmb_c.proofs.reader.act.Goals as goal
use Rattle.pmb_c.proofs.reader.act.Goals.{in-Bus, in-Profile, in-Reader}

-- what the handle held, by the box that was taken out of it
held_as : (taken : Option (Box Held Global)) (box : Box Held Global) (from : Option Held) (one : Held)
    → option_map (λ (b : Box Held Global). b.value) taken ≡ from → taken ≡ Some box → box.value ≡ one → from ≡ Some one
held_as taken box from one of_taken is_box is_one =
    sym of_taken ∙ ap (λ (o : Option (Box Held Global)). option_map (λ (b : Box Held Global). b.value) o) is_box
    ∙ ap (λ (h : Held). Some h) is_one

-- it holds something else, and keeps it
no_reader : (asked : Option ReaderKind) (taken : Option (Box Held Global)) (box : Box Held Global) (from after : Option Held)
    (left was one : Held) → (work done : Work) → option_map (λ (b : Box Held Global). b.value) taken ≡ from
    → taken ≡ Some box → after ≡ Some left → left ≡ was → was ≡ box.value → was ≡ one
    → reader_asked asked (Some one) ≡ None → done ≡ work → ActsHeld asked from work after done None
no_reader asked taken box from after left was one work done of_taken is_box of_left left_was was_value was_one none same =
    let held = held_as taken box from one of_taken is_box (sym was_value ∙ was_one) in (
      ap (reader_asked asked) held ∙ none,
      of_left ∙ ap (λ (h : Held). Some h) (left_was ∙ was_one) ∙ sym held,
      ap (λ (d : Work). d.room) same,
    )

-- it holds a reader, before and after
module _ (asked : Option ReaderKind) (from after : Option Held) (kept left : HeldReader) (work done : Work)
    (of_from : from ≡ Some (held.Reader kept)) (of_after : after ≡ Some (held.Reader left)) where
  in_kept : (serves : Bool) → is_asked asked kept.kind ≡ serves → reader_asked asked from ≡ reader_if serves kept
  in_kept serves asks = ap (reader_asked asked) of_from ∙ ap (λ (b : Bool). reader_if b kept) asks

  -- it does what is asked; a place without a reader stays so
  did : (old new : Option CaptureReader) (answer : Option Answer) → is_asked asked kept.kind ≡ true
      → kept.reader.is ≡ old → left.reader.is ≡ new → left ≡ record kept { reader = record kept.reader { is = left.reader.is } }
      → ActsIn old new work done → answer ≡ done.answer → ActsHeld asked from work after done answer
  did (Some o) (Some n) answer asks is_old is_new rest acts answered =
      let same_kind : left.kind ≡ kept.kind = ap (λ (r : HeldReader). r.kind) rest in
      subst (λ (a : Option Answer). ActsHeld asked from work after done a) (sym (answered ∙ acts.answered)) (
        o,
        n,
        in_kept true asks ∙ is_old,
        ap (reader_asked asked) of_after
            ∙ ap (λ (b : Bool). reader_if b left) (ap (is_asked asked) same_kind ∙ asks)
            ∙ is_new,
        acts,
        acts.answered,
        ap kind_in of_after ∙ ap (λ (k : ReaderKind). Some k) same_kind ∙ sym (ap kind_in of_from),
      )
  did (Some o) None answer asks is_old is_new rest acts answered = elim acts [ ]
  did None new answer asks is_old is_new rest acts answered =
      let same = rest
      ∙ ap (λ (i : Option CaptureReader). record kept { reader = record kept.reader { is = i } })
      (is_new ∙ acts.0 ∙ sym is_old) in
      subst (λ (a : Option Answer). ActsHeld asked from work after done a)
      (sym (answered ∙ ap (λ (d : Work). d.answer) acts.1)) (
        in_kept true asks ∙ is_old,
        of_after ∙ ap (λ (r : HeldReader). Some (held.Reader r)) same ∙ sym of_from,
        ap (λ (d : Work). d.room) acts.1,
      )

  -- .. if it is asked for
  did_as : (serves : Bool) (answer : Option Answer) → is_asked asked kept.kind ≡ serves
      → ActsAs serves kept left work done answer → ActsHeld asked from work after done answer
  did_as true answer asks acts = did kept.reader.is left.reader.is answer asks refl refl acts.0 acts.1 acts.2
  did_as false answer asks acts =
      subst (λ (a : Option Answer). ActsHeld asked from work after done a) (sym acts.2) (
        in_kept false asks,
        of_after ∙ ap (λ (r : HeldReader). Some (held.Reader r)) acts.0 ∙ sym of_from,
        ap (λ (d : Work). d.room) acts.1,
      )

pub returns : goal.returns
returns c = elim c.match-deref_mut.branch [
  | in-Profile w ↦
      subst (λ (a : Option Answer). ActsHeld c.args.asked c.args.handle.now.held c.args.work.now c.of.result.held c.match-deref_mut.work a)
      (sym w.answer-is)
      (no_reader c.args.asked c.take.result c.in_ok-held.held c.args.handle.now.held c.of.result.held c.match-deref_mut.held.value
      c.deref_mut.result.now _ c.args.work.now c.match-deref_mut.work c.take.ensures.held c.in_ok-held.was c.of.ensures
      (ap (λ (b : Box Held Global). b.value) w.held-is) c.deref_mut.ensures.value w.in-Profile.is refl w.work-is)
  | in-Reader w ↦
      let from = held_as c.take.result c.in_ok-held.held c.args.handle.now.held _ c.take.ensures.held c.in_ok-held.was
      (sym c.deref_mut.ensures.value ∙ w.in-Reader.is) in
      let after = c.of.ensures ∙ ap (λ (b : Box Held Global). Some b.value) w.held-is in
      subst (λ (a : Option Answer). ActsHeld c.args.asked c.args.handle.now.held c.args.work.now c.of.result.held c.match-deref_mut.work a)
      (sym w.answer-is)
      (subst
      (λ (done : Work). ActsHeld c.args.asked c.args.handle.now.held c.args.work.now c.of.result.held done w.act-answer.result)
      (sym w.work-is)
      (did_as c.args.asked c.args.handle.now.held c.of.result.held w.in-Reader.reader w.act-answer.new.self c.args.work.now
      w.act-answer.new.work from after (is_asked c.args.asked w.in-Reader.reader.kind) w.act-answer.result refl w.act-answer.ensures))
  | in-Bus w ↦
      subst (λ (a : Option Answer). ActsHeld c.args.asked c.args.handle.now.held c.args.work.now c.of.result.held c.match-deref_mut.work a)
      (sym w.answer-is)
      (no_reader c.args.asked c.take.result c.in_ok-held.held c.args.handle.now.held c.of.result.held c.match-deref_mut.held.value
      c.deref_mut.result.now _ c.args.work.now c.match-deref_mut.work c.take.ensures.held c.in_ok-held.was c.of.ensures
      (ap (λ (b : Box Held Global). b.value) w.held-is) c.deref_mut.ensures.value w.in-Bus.is refl w.work-is)
]
