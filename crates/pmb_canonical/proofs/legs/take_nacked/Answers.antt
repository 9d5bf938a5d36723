use Rattle.std.proofs.Common.{◌≡◌, ℕ, [], ◌∷◌, ◌++◌, length, drop, refl, sym, ap, ◌∙◌, arith}
use Rattle.std.proofs.lemmas.Bool.{eqb-true}
use Rattle.std.proofs.lemmas.Option.{same_Some}
use Rattle.pmb_canonical.proofs.legs.take_nacked.Goals as goal

pub returns-clause-spelled : goal.returns-clause-spelled
returns-clause-spelled c = record {
  last = c.in_ok-last.last;
  rest = drop 7 c.args.text.now;
  nacked = refl;
  added = c.push.ensures;
  split = c.in_ok-last.ensures.spelled;
}

pub returns-in_err-last-clause-found : goal.returns-in_err-last-clause-found
returns-in_err-last-clause-found c last rest small few split =
    absurd (cc (c.in_err-last.ensures.only last rest small split))

pub returns-then-is_full-clause-found : goal.returns-then-is_full-clause-found
returns-then-is_full-clause-found c last rest small few split =
    let full : length c.args.bytes.now.items ≡ 516 = eqb-true (length c.args.bytes.now.items) 516
    (sym c.is_full.ensures.value ∙ c.if-is_full.true) in
    absurd (omega (arith, full, few))

pub returns-clause-found : goal.returns-clause-found
returns-clause-found c last rest small few split =
    let same : c.in_ok-last.last ≡ last = same_Some c.in_ok-last.last last
    (c.in_ok-last.ensures.only last rest small split) in
    (refl, c.push.ensures ∙ ap (λ (n : ℕ). c.args.bytes.now.items ++ n ∷ []) same)

pub push-requires : goal.push-requires
push-requires c = c.is_full.ensures.room c.if-is_full.false
