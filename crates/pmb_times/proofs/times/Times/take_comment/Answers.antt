use Rattle.std.proofs.Common.{◌≡◌, ◌++◌, ◌+◌, List, inl, inr, length, refl, subst, sym, ap, ◌∙◌, arith, ℕ}
use Rattle.std.proofs.lemmas.Bool.{cases_lt, false≢true}
use Rattle.std.proofs.lemmas.List.{length-append}
use Rattle.pmb_times.specs.declared.times.LineState.{LineState}
use Rattle.pmb_times.specs.declared.times.LineState.TheVariants.{Comment, Kept}
use Rattle.pmb_times.specs.machine.Standing.{FieldsStandAt, is_comment}
use Rattle.pmb_times.proofs.Bytes.{comment_all, stands_kept_all, stands_long}
use Rattle.pmb_times.proofs.times.Times.take_comment.Goals as goal

pub returns-in-Kept : goal.returns-in-Kept
returns-in-Kept c = λ text inside none stands.
    let old = c.args.self.now in
    let new = c.keep_line.new.self in
    let bytes = c.args.bytes.now in
    let after = text ++ bytes in
    let stood = subst (λ (s : LineState). FieldsStandAt s old.line.items old.gap.items old.word.items text)
    c.in-Kept.is stands in
    let all = stands_kept_all old.line.items old.gap.items old.word.items text bytes stood none in
    let same : (s : LineState) (line : List ℕ) → FieldsStandAt s line old.gap.items old.word.items after
    → new.state ≡ s → new.line.items ≡ line
    → FieldsStandAt new.state new.line.items new.gap.items new.word.items after = λ s line now state_is line_is.
    subst (λ (t : LineState). FieldsStandAt t new.line.items new.gap.items new.word.items after) (sym state_is)
    (subst (λ (l : List ℕ). FieldsStandAt s l new.gap.items new.word.items after) (sym line_is)
    (subst (λ (g : List ℕ). FieldsStandAt s line g new.word.items after)
    (sym (ap (λ kept. kept.items) c.keep_line.ensures.gap))
    (subst (λ (w : List ℕ). FieldsStandAt s line old.gap.items w after)
    (sym (ap (λ kept. kept.items) c.keep_line.ensures.word))
    now))) in
    elim (cases_lt 45 (length old.line.items + length bytes)) [
      | inl long ↦
          same Comment new.line.items
          (stands_long (old.line.items ++ bytes) new.line.items old.gap.items old.word.items after all
          (omega (arith, length-append old.line.items bytes)))
          (c.keep_line.ensures.long long) refl
      | inr short ↦
          let kept = c.keep_line.ensures.kept short in
          same Kept (old.line.items ++ bytes) all (kept.0 ∙ c.in-Kept.is) kept.1
    ]

pub returns-in-Empty : goal.returns-in-Empty
returns-in-Empty c = λ text inside none stands.
    let old = c.args.self.now in
    let bytes = c.args.bytes.now in
    let is_comment_state : old.state ≡ Comment =
    elim c.in-Empty.is [
      | inl is ↦ absurd (false≢true (sym (ap is_comment is) ∙ inside))
      | inr (inl is) ↦ absurd (false≢true (sym (ap is_comment is) ∙ inside))
      | inr (inr (inl is)) ↦ absurd (false≢true (sym (ap is_comment is) ∙ inside))
      | inr (inr (inr is)) ↦ is
    ] in
    let stood = subst (λ (s : LineState). FieldsStandAt s old.line.items old.gap.items old.word.items text)
    is_comment_state stands in
    subst (λ (s : LineState). FieldsStandAt s old.line.items old.gap.items old.word.items (text ++ bytes))
    (sym is_comment_state)
    (comment_all old.line.items old.line.items old.gap.items old.word.items text bytes stood none)
