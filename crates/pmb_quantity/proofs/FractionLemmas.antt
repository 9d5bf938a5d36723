-- The greatest common divisor and lowest terms: for `gcd` and all that makes a quantity. The
-- definition searches for the greatest number that divides both; Euclid's division finds the same,
-- since each divisor of both divides what it finds.
use Rattle.std.proofs.Common.{◌≡◌, ℕ, zero, suc, inl, inr, Bool, true, false, cond, ◌==◌, ◌&&◌, ◌+◌, ◌*◌, ◌/◌, ◌%◌, ◌^◌}
use Rattle.std.proofs.Common.{◌<◌, ◌≤◌, pos, unsigned_abs, refl, sym, ap, ◌∙◌, subst, arith, eq-eqb}
use Rattle.std.specs.Int.{IsGcd, ◌∣◌}
use Rattle.std.proofs.lemmas.Bool.{cases_Bool, cases_eq, false≢true}
use Rattle.std.proofs.lemmas.Bool.Decides.{nat_tests}
use Rattle.std.proofs.lemmas.Nat.{mod_below, div-add-mod', mod-mul-add}
use Rattle.std.proofs.Math.Nat.{zero-mul, mul-lt-mul_of_pos_right, div-mul_cancel, mul-div_cancel, eq-zero_of_zero-dvd}
use Rattle.std.proofs.Math.Nat.{eq-one_of_dvd-one, one-dvd, dvd-mul_right}
use Rattle.std.proofs.lemmas.Nat.Gcd.{IsGcd-from_zero, IsGcd-from_mod, IsGcd-swap, same_from_IsGcd, dvd_trans}
use Rattle.std.proofs.lemmas.Nat.Gcd.{dvd_of_mod-eq-zero, mod-eq-zero_of_dvd, le_of_dvd}
use Rattle.pmb_quantity.specs.Fraction.{Fraction, common_divisor, gcd, IsLowest, IsQuantity}

-- ---- there is a greatest common divisor: Euclid's division finds it, in so many turns
euclid : ℕ → ℕ → ℕ → ℕ
euclid zero a b = a
euclid (suc turns) a zero = a
euclid (suc turns) a (suc b) = euclid turns (suc b) (a % suc b)

-- it divides both, and each number that divides both divides it
IsGcd-euclid : (t a b : ℕ) → b < t → IsGcd a b (euclid t a b)
unfolding euclid
IsGcd-euclid zero a b few = absurd (omega arith)
IsGcd-euclid (suc t) a zero few = IsGcd-from_zero a 0 refl
IsGcd-euclid (suc t) a (suc b) few = IsGcd-from_mod a (suc b) (euclid t (suc b) (a % suc b))
    (IsGcd-euclid t (suc b) (a % suc b) (omega arith))

-- ---- the search for the greatest common divisor finds the same
-- the test of one number
divides_both : ℕ → ℕ → ℕ → Bool
divides_both a b k = a % k == 0 && b % k == 0

both_of_test : (a b k : ℕ) → divides_both a b k ≡ true → (k ∣ a) × (k ∣ b)
unfolding divides_both
both_of_test a b k passes =
    let zeros : (a % k ≡ 0) × (b % k ≡ 0) = (grind (arith, nat_tests), grind (arith, nat_tests)) in
    (dvd_of_mod-eq-zero k zeros.0, dvd_of_mod-eq-zero k zeros.1)

test_of_both : (a b k : ℕ) → k ∣ a → k ∣ b → divides_both a b k ≡ true
unfolding divides_both
test_of_both a b k of_a of_b =
    ap (λ t. t && b % k == 0) (eq-eqb (a % k) 0 (mod-eq-zero_of_dvd k of_a))
    ∙ eq-eqb (b % k) 0 (mod-eq-zero_of_dvd k of_b)

found_here : (n a b : ℕ) → divides_both a b (suc n) ≡ true → common_divisor (suc n) a b ≡ suc n
unfolding divides_both
found_here n a b passes = ap (λ t. cond t (suc n) (common_divisor n a b)) passes

found_below : (n a b : ℕ) → divides_both a b (suc n) ≡ false → common_divisor (suc n) a b ≡ common_divisor n a b
unfolding divides_both
found_below n a b fails = ap (λ t. cond t (suc n) (common_divisor n a b)) fails

-- what is found divides both
found_divides : (n a b : ℕ) → 0 < common_divisor n a b → (common_divisor n a b ∣ a) × (common_divisor n a b ∣ b)
found_divides zero a b some = absurd (omega arith)
found_divides (suc n) a b some =
    let P : ℕ → Type 0 = λ k. (k ∣ a) × (k ∣ b) in
    elim (cases_Bool (divides_both a b (suc n))) [
      | inl passes ↦ subst P (sym (found_here n a b passes)) (both_of_test a b (suc n) passes)
      | inr fails ↦
          let same = found_below n a b fails in
          subst P (sym same) (found_divides n a b (omega (arith, same, some)))
    ]

-- no number up to the bound that divides both is greater
found_greatest : (n a b k : ℕ) → 0 < k → k ≤ n → k ∣ a → k ∣ b → k ≤ common_divisor n a b
found_greatest zero a b k some small of_a of_b = absurd (omega arith)
found_greatest (suc n) a b k some small of_a of_b =
    elim (cases_Bool (divides_both a b (suc n))) [
      | inl passes ↦ omega (arith, found_here n a b passes)
      | inr fails ↦
          elim (cases_eq k (suc n)) [
            | inl last ↦
                let P : ℕ → Type 0 = λ m. divides_both a b m ≡ true in
                absurd (false≢true (sym fails ∙ subst P last (test_of_both a b k of_a of_b)))
            | inr other ↦ omega (arith, found_below n a b fails, found_greatest n a b k some (omega arith) of_a of_b)
          ]
    ]

-- so it is the greatest common divisor
module _ (a b : ℕ) where
  found_is : (g : ℕ) → IsGcd a b g → 0 < a + b → gcd a b ≡ g
  unfolding gcd
  -- what Euclid finds is not 0,
  found_is g is some =
      let g_some : 0 < g =
      elim (cases_eq g 0) [
        | inl none ↦
            let P : ℕ → Type 0 = λ k. (k ∣ a) × (k ∣ b) in
            let both = subst P none (is.0, is.1) in
            absurd (omega (arith, eq-zero_of_zero-dvd both.0, eq-zero_of_zero-dvd both.1))
        | inr other ↦ omega arith
      ] in
      -- and no greater than both together,
      let g_small : g ≤ a + b =
      elim (cases_eq a 0) [
        | inl none ↦ omega (arith, le_of_dvd (omega arith) is.1)
        | inr other ↦ omega (arith, le_of_dvd (omega arith) is.0)
      ] in
      -- so the search finds no less,
      let at_least : g ≤ common_divisor (a + b) a b = found_greatest (a + b) a b g g_some g_small is.0 is.1 in
      let divides = found_divides (a + b) a b (omega arith) in
      -- and no more
      let at_most : common_divisor (a + b) a b ≤ g =
      le_of_dvd g_some (is.2 (common_divisor (a + b) a b) divides.0 divides.1) in
      omega arith

pub IsGcd-gcd : (a b : ℕ) → IsGcd a b (gcd a b)
unfolding gcd
IsGcd-gcd zero zero = IsGcd-from_zero 0 0 refl
IsGcd-gcd zero (suc b) =
    let is = IsGcd-euclid (suc (suc b)) 0 (suc b) (omega arith) in
    subst (IsGcd 0 (suc b)) (sym (found_is 0 (suc b) (euclid (suc (suc b)) 0 (suc b)) is (omega arith))) is
IsGcd-gcd (suc a) b =
    let is = IsGcd-euclid (suc b) (suc a) b (omega arith) in
    subst (IsGcd (suc a) b) (sym (found_is (suc a) b (euclid (suc b) (suc a) b) is (omega arith))) is

pub gcd_is : (a b g : ℕ) → IsGcd a b g → gcd a b ≡ g
gcd_is a b g is = same_from_IsGcd a b (gcd a b) g (IsGcd-gcd a b) is

pub gcd_swap : (a b : ℕ) → gcd b a ≡ gcd a b
gcd_swap a b = gcd_is b a (gcd a b) (IsGcd-swap a b (gcd a b) (IsGcd-gcd a b))

pub gcd_of_zero : (a : ℕ) → gcd a zero ≡ a
gcd_of_zero a = gcd_is a 0 a (IsGcd-from_zero a 0 refl)

-- one division
pub gcd_step : (a b : ℕ) → 0 < b → gcd a b ≡ gcd b (a % b)
gcd_step a b positive = gcd_is a b (gcd b (a % b)) (IsGcd-from_mod a b (gcd b (a % b)) (IsGcd-gcd b (a % b)))

-- it is 1 or more where b is
pub gcd_positive : (a b : ℕ) → 0 < b → 0 < gcd a b
gcd_positive a b positive =
    elim (cases_eq (gcd a b) 0) [
      | inl none ↦ absurd (omega (arith, eq-zero_of_zero-dvd (subst (λ (g : ℕ). g ∣ b) none (IsGcd-gcd a b).1)))
      | inr some ↦ omega arith
    ]

-- a common factor stays in the rest of a division
mod-scale : (a b k : ℕ) → 0 < b → 0 < k → (a * k) % (b * k) ≡ a % b * k
mod-scale a b k positive factor =
    let small : a % b * k < b * k = mul-lt-mul_of_pos_right (mod_below a b positive) factor in
    let split : a * k ≡ a / b * (b * k) + a % b * k = sym (ap (λ n. n * k) (div-add-mod' a b)) ∙ omega arith in
    ap (λ n. n % (b * k)) split ∙ mod-mul-add (a / b) (b * k) (a % b * k) small

-- a common factor comes out
scale_turns : (t a b k : ℕ) → b < t → 0 < k → gcd (a * k) (b * k) ≡ gcd a b * k
scale_turns zero a b k few positive = absurd (omega arith)
scale_turns (suc t) a zero k few positive = ap (gcd (a * k)) (zero-mul k) ∙ gcd_of_zero (a * k)
    ∙ ap (λ g. g * k) (sym (gcd_of_zero a))
scale_turns (suc t) a (suc b) k few positive =
    let whole : 0 < suc b * k = omega (arith, mul-lt-mul_of_pos_right {m = 0} {n = suc b} (omega arith) positive) in
    let rest : (a * k) % (suc b * k) ≡ a % suc b * k = mod-scale a (suc b) k (omega arith) positive in
    gcd_step (a * k) (suc b * k) whole ∙ ap (gcd (suc b * k)) rest ∙ scale_turns t (suc b) (a % suc b) k
    (omega arith) positive ∙ ap (λ g. g * k) (sym (gcd_step a (suc b) (omega arith)))

pub gcd-scale : (a b k : ℕ) → 0 < k → gcd (a * k) (b * k) ≡ gcd a b * k
gcd-scale a b k positive = scale_turns (suc b) a b k (omega arith) positive

-- what is left after the division by it has no common divisor
pub gcd-quotients : (a b : ℕ) → 0 < b → gcd (a / gcd a b) (b / gcd a b) ≡ 1
gcd-quotients a b positive =
    let g = gcd a b in
    let g_positive : 0 < g = gcd_positive a b positive in
    let a_is : a / g * g ≡ a = div-mul_cancel g (IsGcd-gcd a b).0 in
    let b_is : b / g * g ≡ b = div-mul_cancel g (IsGcd-gcd a b).1 in
    let scaled : gcd (a / g) (b / g) * g ≡ 1 * g = sym (gcd-scale (a / g) (b / g) g g_positive)
    ∙ ap (λ x. gcd x (b / g * g)) a_is ∙ ap (gcd a) b_is ∙ omega arith in
    sym (mul-div_cancel (gcd (a / g) (b / g)) g_positive) ∙ ap (λ n. n / g) scaled ∙ mul-div_cancel 1 g_positive

-- what divides a positive number goes into it at least once
pub quotient_positive : (d g : ℕ) → 0 < d → g ∣ d → 0 < d / g
quotient_positive d g positive divides =
    elim (cases_eq (d / g) 0) [
      | inl none ↦ absurd (omega (arith, sym (div-mul_cancel g divides) ∙ ap (λ n. n * g) none ∙ zero-mul g))
      | inr some ↦ omega arith
    ]

-- numbers without a common divisor are in lowest terms
pub lowest_of_gcd : (q : Fraction) → gcd (unsigned_abs q.numerator) q.denominator ≡ 1 → IsLowest q
unfolding IsLowest
lowest_of_gcd q one k of_numerator of_denominator =
    let P : ℕ → Type 0 = λ g. k ∣ g in
    eq-one_of_dvd-one (subst P one ((IsGcd-gcd (unsigned_abs q.numerator) q.denominator).2 k of_numerator
    of_denominator))

pub gcd_of_lowest : (q : Fraction) → IsLowest q → gcd (unsigned_abs q.numerator) q.denominator ≡ 1
unfolding IsLowest
gcd_of_lowest q lowest =
    let is = IsGcd-gcd (unsigned_abs q.numerator) q.denominator in
    lowest (gcd (unsigned_abs q.numerator) q.denominator) is.0 is.1

-- lowest terms that fit are a quantity
pub IsQuantity-quotients : (n d : ℕ) → 0 < d → n / gcd n d < 2 ^ 62 → d / gcd n d < 2 ^ 62
    → IsQuantity (record { numerator = pos (n / gcd n d); denominator = d / gcd n d })
IsQuantity-quotients n d positive n_fits d_fits = record {
  numerator_fits = n_fits;
  denominator_fits = d_fits;
  positive = quotient_positive d (gcd n d) positive (IsGcd-gcd n d).1;
  lowest = lowest_of_gcd (record { numerator = pos (n / gcd n d); denominator = d / gcd n d })
      (gcd-quotients n d positive);
}

-- ---- numbers without a common divisor
-- Where a and b have no common divisor and b divides a * c, it divides c.
pub divides_other : (a b c : ℕ) → 0 < c → gcd a b ≡ 1 → b ∣ a * c → b ∣ c
divides_other a b c some one divides =
    let P : ℕ → Type 0 = λ g. b ∣ g in
    let whole : gcd (a * c) (b * c) ≡ c = gcd-scale a b c some ∙ ap (λ g. g * c) one ∙ omega arith in
    subst P whole ((IsGcd-gcd (a * c) (b * c)).2 b divides (dvd-mul_right b c))

-- what a divisor of a number has in common with another one
pub coprime_divisor : (d n m : ℕ) → d ∣ n → gcd n m ≡ 1 → gcd d m ≡ 1
coprime_divisor d n m divides one =
    gcd_is d m 1 (
      one-dvd d,
      one-dvd m,
      λ k of_d of_m. subst (λ (g : ℕ). k ∣ g) one ((IsGcd-gcd n m).2 k (dvd_trans k of_d divides) of_m),
    )

-- with a product a number has no common divisor where it has none with either factor
pub coprime_product : (n a b : ℕ) → 0 < b → gcd n a ≡ 1 → gcd n b ≡ 1 → gcd n (a * b) ≡ 1
coprime_product n a b some with_a with_b =
    gcd_is n (a * b) 1 (
      one-dvd n,
      one-dvd (a * b),
      λ d of_n of_product.
          let of_b : d ∣ b = divides_other a d b some (gcd_swap d a ∙ coprime_divisor d n a of_n with_a) of_product in
          subst (λ (g : ℕ). d ∣ g) with_b ((IsGcd-gcd n b).2 d of_n of_b),
    )
