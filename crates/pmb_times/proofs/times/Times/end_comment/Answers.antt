use Rattle.std.proofs.Common.{◌++◌, ◌∷◌, [], ◌≡◌, List, inl, inr, subst, sym, ap, ◌∙◌, ℕ}
use Rattle.std.proofs.lemmas.Bool.{false≢true}
use Rattle.pmb_times.specs.declared.times.LineState.{LineState}
use Rattle.pmb_times.specs.declared.times.LineState.TheVariants.{Comment, Empty}
use Rattle.pmb_times.specs.machine.Standing.{FieldsStandAt, is_comment}
use Rattle.pmb_times.proofs.States.{stands_comment_end, stands_line_end}
use Rattle.pmb_times.proofs.times.Times.end_comment.Goals as goal

pub returns-in-Kept : goal.returns-in-Kept
returns-in-Kept c = λ text inside stands.
    let old = c.args.self.now in
    let new = c.end_line.new.self in
    let after = text ++ 10 ∷ [] in
    let stood = subst (λ (s : LineState). FieldsStandAt s old.line.items old.gap.items old.word.items text)
    c.in-Kept.is stands in
    subst (λ (s : LineState). FieldsStandAt s new.line.items new.gap.items new.word.items after)
    (sym c.end_line.ensures.state)
    (subst (λ (w : List ℕ). FieldsStandAt Empty new.line.items new.gap.items w after) (sym c.end_line.ensures.word)
    (stands_line_end old.line.items new.line.items old.gap.items new.gap.items old.word.items text stood
    c.end_line.ensures.gap))

pub returns-in-Empty : goal.returns-in-Empty
returns-in-Empty c = λ text inside stands.
    let old = c.args.self.now in
    let is_comment_state : old.state ≡ Comment =
    elim c.in-Empty.is [
      | inl is ↦ absurd (false≢true (sym (ap is_comment is) ∙ inside))
      | inr (inl is) ↦ absurd (false≢true (sym (ap is_comment is) ∙ inside))
      | inr (inr (inl is)) ↦ absurd (false≢true (sym (ap is_comment is) ∙ inside))
      | inr (inr (inr is)) ↦ is
    ] in
    stands_comment_end old.line.items old.line.items old.gap.items old.word.items text
    (subst (λ (s : LineState). FieldsStandAt s old.line.items old.gap.items old.word.items text) is_comment_state
    stands)
