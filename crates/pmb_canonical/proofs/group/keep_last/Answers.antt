use Rattle.std.proofs.Common.{◌≡◌, ℕ, List, length, sym, subst, ◌∙◌, arith}
use Rattle.std.proofs.lemmas.Bool.{eqb-true}
use Rattle.pmb_canonical.specs.Nacked.{IsOfNacked, SaysNacked}
use Rattle.pmb_canonical.proofs.group.keep_last.Goals as goal

pub returns-then-is_full-clause-found : goal.returns-then-is_full-clause-found
returns-then-is_full-clause-found c few say =
    let full : length c.args.bytes.now.items ≡ 516 = eqb-true (length c.args.bytes.now.items) 516
    (sym c.is_full.ensures.value ∙ c.if-is_full.true) in
    absurd (omega (arith, full, few))

pub push-requires : goal.push-requires
push-requires c = c.is_full.ensures.room c.if-is_full.false

pub returns-clause-keeps : goal.returns-clause-keeps
returns-clause-keeps c is =
    subst (λ (l : List ℕ). IsOfNacked c.args.profile.now c.args.kept.now.parts l c.keep_refused.new.kept.last)
    (c.as_slice.ensures.value ∙ c.push.ensures)
    (c.keep_refused.ensures.keeps is)

pub returns-clause-found : goal.returns-clause-found
returns-clause-found c few say =
    c.keep_refused.ensures.found (subst (SaysNacked c.args.profile.now c.args.kept.now.parts)
    (sym (c.as_slice.ensures.value ∙ c.push.ensures)) say)
