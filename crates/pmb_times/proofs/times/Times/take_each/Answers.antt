use Rattle.std.proofs.Common.{◌≡◌, ◌-◌, ◌++◌, ◌∙◌, [], ◌∷◌, List, ap, arith, drop, length, refl, subst, sym, take, ℕ}
use Rattle.std.proofs.lemmas.Bool.{eqb-true}
use Rattle.std.proofs.lemmas.List.{append_assoc, append-nil, length-drop, take-append-drop, take_all}
use Rattle.pmb_times.specs.Times.{TimesStandAt}
use Rattle.pmb_times.proofs.times.Times.take_each.Goals as goal

pub loop-rest-init : goal.loop-rest-init
loop-rest-init c = λ text stands. ([], refl, subst (TimesStandAt c.args.self.now) (sym (append-nil text)) stands)

pub loop-rest-preserved : goal.loop-rest-preserved
loop-rest-preserved c = λ text stands.
    let before = c.loop-rest.invariant text stands in
    let rest = c.loop-rest.rest.now in
    let front = c.take_front-front.result in
    let after : take (length rest - front) (drop front rest) ≡ drop front rest =
    take_all (length rest - front) (drop front rest) (omega (arith, length-drop front rest)) in (
      before.0 ++ take front rest,
      ap (λ (more : List ℕ). (before.0 ++ take front rest) ++ more) after
          ∙ append_assoc before.0 (take front rest) (drop front rest)
          ∙ ap (λ (more : List ℕ). before.0 ++ more) (take-append-drop front rest)
          ∙ before.1,
      subst (TimesStandAt c.take_front-front.new.self) (append_assoc text before.0 (take front rest))
          (c.take_front-front.ensures.stands (text ++ before.0) before.2),
    )

none_left : (done rest bytes : List ℕ) → length rest ≡ 0 → done ++ rest ≡ bytes → done ≡ bytes
none_left done [] bytes none all = sym (append-nil done) ∙ all
none_left done (b ∷ rest) bytes none all = absurd (omega arith)

pub returns : goal.returns
returns c = λ text stands.
    let before = c.loop-rest.invariant text stands in
    let rest = c.loop-rest.rest.now in
    let none : length rest ≡ 0 = eqb-true (length rest) 0 (sym c.is_empty.ensures ∙ c.loop-rest-test.false) in
    subst (λ (given : List ℕ). TimesStandAt c.loop-rest.self (text ++ given))
    (none_left before.0 rest c.args.bytes.now none before.1) before.2
