-- A quantity outside the range is found by the least and the greatest code: for `is_below` and
-- `is_above`. It is compared with the value of that code, times its own denominator.
use Rattle.std.proofs.Common.{◌≡◌, ℕ, ◌<◌, ℤ, ◌<ℤ◌, ◌≤ℤ◌, Bool, true, false, MatchBool, refl, arith}
use lib.Signed.{lt_z}
use Rattle.std.proofs.lemmas.Int.{ints}
use Rattle.pmb_quantity.specs.Fraction.{Fraction}
use Rattle.pmb_format.specs.Coding.{Coding, IsBelow, IsAbove, ReachesSome, IsReachedBySome, scaled, scaled_code}
use Rattle.pmb_format.specs.Row.{IsLeast, IsGreatest}
use Rattle.pmb_format.proofs.Products.{product_le}

by_test : (P : Type 0) (Q : Type 0) (b : Bool) → (b ≡ true → P) → (b ≡ false → Q) → MatchBool b P Q
by_test P Q true holds fails = holds refl
by_test P Q false holds fails = fails refl

true_less : (a b : ℤ) → lt_z a b ≡ true → a <ℤ b
true_less a b test = grind (arith, ints)

false_less : (a b : ℤ) → lt_z a b ≡ false → b ≤ℤ a
false_less a b test = grind (arith, ints)

pub below_by_least : (f : Coding) (q : Fraction) (code : ℕ) (s v : ℤ) → 0 < q.denominator → IsLeast f code
    → s ≡ scaled f q → v ≡ scaled_code f q code → MatchBool (lt_z s v) (IsBelow f q) (ReachesSome f q)
below_by_least f q code s v positive least s_is v_is =
    by_test (IsBelow f q) (ReachesSome f q) (lt_z s v)
    (λ test k k_code.
    let order = product_le q.denominator (f.numerator code) (f.numerator k) positive (least.least k k_code) in
    omega (arith, ints, true_less s v test, order, s_is, v_is))
    (λ test. (code, least.is_code, omega (arith, ints, false_less s v test, s_is, v_is)))

pub above_by_greatest : (f : Coding) (q : Fraction) (code : ℕ) (s v : ℤ) → 0 < q.denominator → IsGreatest f code
    → s ≡ scaled f q → v ≡ scaled_code f q code → MatchBool (lt_z v s) (IsAbove f q) (IsReachedBySome f q)
above_by_greatest f q code s v positive greatest s_is v_is =
    by_test (IsAbove f q) (IsReachedBySome f q) (lt_z v s)
    (λ test k k_code.
    let order = product_le q.denominator (f.numerator k) (f.numerator code) positive (greatest.greatest k k_code) in
    omega (arith, ints, true_less v s test, order, s_is, v_is))
    (λ test. (code, greatest.is_code, omega (arith, ints, false_less v s test, s_is, v_is)))
