use Rattle.std.proofs.Common.{◌≡◌, ◌-◌, ◌*◌, ◌/◌, ◌^◌, suc, sym, ap, ◌∙◌, arith}
use Rattle.std.proofs.Math.Nat.{mul_assoc, pow-succ'}
use Rattle.std.proofs.lemmas.Nat.Gcd.{mod-eq-zero_of_dvd}
use Rattle.pmb_quantity.specs.Fraction.{gcd}
use Rattle.pmb_quantity.proofs.Primes.{five_coprime}
use Rattle.pmb_quantity.proofs.Twos.{gcd_of_one}
use Rattle.pmb_quantity.proofs.quantity.without_fives.Goals as goal

-- one five more is taken out
pub loop-left-preserved : goal.loop-left-preserved
loop-left-preserved c =
    let rest = c.loop-left.rest in
    let out = c.args.fives - c.loop-left.left in
    let split : rest ≡ rest / 5 * 5 = omega arith in
    let more : c.args.fives - (c.loop-left.left - 1) ≡ suc out = omega (arith, c.loop-left.invariant.1) in (
      ap (λ k. rest / 5 * 5 ^ k) more ∙ ap (λ x. rest / 5 * x) (pow-succ' 5 out)
          ∙ sym (mul_assoc (rest / 5) 5 (5 ^ out)) ∙ ap (λ x. x * 5 ^ out) (sym split) ∙ c.loop-left.invariant.0,
      omega (arith, c.loop-left.invariant.1),
    )

pub returns-else-rest-eq0-clause-lowest : goal.returns-else-rest-eq0-clause-lowest
returns-else-rest-eq0-clause-lowest c =
    five_coprime c.loop-left.rest c.loop-left.left (λ inside. c.if-rest-eq0.false (mod-eq-zero_of_dvd 5 inside))

pub returns-after-loop-left-clause-lowest : goal.returns-after-loop-left-clause-lowest
returns-after-loop-left-clause-lowest c =
    let none : c.loop-left.left ≡ 0 = omega arith in
    ap (λ k. gcd c.loop-left.rest (5 ^ k)) none ∙ gcd_of_one c.loop-left.rest
