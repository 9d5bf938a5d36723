use Rattle.std.proofs.Common.{◌≡◌, ◌<◌, ap, sym, ◌∙◌, arith}
use Rattle.pmb_quantity.specs.Fraction.{gcd}
use Rattle.pmb_quantity.proofs.FractionLemmas.{gcd_of_zero, gcd_step}
use Rattle.pmb_quantity.proofs.quantity.gcd.Goals as goal

pub loop-b-preserved : goal.loop-b-preserved
loop-b-preserved c = sym (gcd_step c.loop-b.a c.loop-b.b (omega arith)) ∙ c.loop-b.invariant

pub returns-then-b-eq0 : goal.returns-then-b-eq0
returns-then-b-eq0 c =
    let none : c.loop-b.b ≡ 0 = omega arith in
    sym (ap (gcd c.loop-b.a) none ∙ gcd_of_zero c.loop-b.a) ∙ c.loop-b.invariant

pub returns : goal.returns
returns c =
    let some : 0 < c.loop-b.b = omega arith in
    c.from-2.ensures ∙ c.gcd_of_words.ensures ∙ sym (gcd_step c.loop-b.a c.loop-b.b some) ∙ c.loop-b.invariant
