-- Lowest terms have the value of their fraction, and are the only ones that do: for the law
-- `lowest_terms`, `Quantity::new` and `Quantity::negated`. Of two fractions of one value without a
-- common divisor each denominator divides the other.
use Rattle.std.proofs.Common.{◌≡◌, ℕ, suc, ◌*◌, ◌/◌, ◌<◌, ℤ, pos, negsuc, neg_ℤ, ◌*ℤ◌, unsigned_abs, int_div, refl, sym}
use Rattle.std.proofs.Common.{ap, ◌∙◌, subst}
use Rattle.std.proofs.Math.Nat.{div-mul_cancel, mul_assoc, mul_comm, dvd-mul_left, dvd-mul_right}
use Rattle.std.proofs.Math.IntN.{*ℤ_comm}
use Rattle.std.proofs.lemmas.Nat.Gcd.{dvd_antisymm}
use Rattle.std.specs.Int.{◌∣◌}
use Rattle.pmb_quantity.specs.Fraction.{Fraction, HasValue, IsLowest, gcd, lowest_terms}
use Rattle.pmb_quantity.proofs.Fitted.{unsigned_abs-neg}
use Rattle.pmb_quantity.specs.Laws.{AreLowestTerms}
use Rattle.pmb_quantity.proofs.Scaling.{neg-scale, unscale_eq, scale-swap}
use Rattle.pmb_quantity.proofs.FractionLemmas.{IsGcd-gcd, gcd-quotients, gcd_of_lowest, lowest_of_gcd}
use Rattle.pmb_quantity.proofs.FractionLemmas.{quotient_positive, divides_other}

-- both products are one multiple of the two quotients
cross : (m d g : ℕ) → g ∣ m → g ∣ d → m / g * d ≡ d / g * m
cross m d g of_m of_d =
    ap (λ x. m / g * x) (sym (div-mul_cancel g of_d)) ∙ sym (mul_assoc (m / g) (d / g) g)
    ∙ ap (λ x. x * g) (mul_comm (m / g) (d / g)) ∙ mul_assoc (d / g) (m / g) g
    ∙ ap (λ x. d / g * x) (div-mul_cancel g of_m)

-- lowest terms have the value
pub lowest_terms-same : (n : ℤ) (d : ℕ) → (lowest_terms n d).numerator *ℤ pos d
    ≡ pos (lowest_terms n d).denominator *ℤ n
lowest_terms-same (pos m) d = ap pos (cross m d (gcd m d) (IsGcd-gcd m d).0 (IsGcd-gcd m d).1)
lowest_terms-same (negsuc m) d =
    neg-scale (suc m / gcd (suc m) d) d ∙ ap (λ x. neg_ℤ (pos x))
    (cross (suc m) d (gcd (suc m) d) (IsGcd-gcd (suc m) d).0 (IsGcd-gcd (suc m) d).1)

pub lowest_terms-positive : (n : ℤ) (d : ℕ) → 0 < d → 0 < (lowest_terms n d).denominator
lowest_terms-positive n d positive = quotient_positive d (gcd (unsigned_abs n) d) positive
    (IsGcd-gcd (unsigned_abs n) d).1

pub int_div-abs : (n : ℤ) (g : ℕ) → unsigned_abs (int_div n (pos g)) ≡ unsigned_abs n / g
int_div-abs (pos m) g = refl
int_div-abs (negsuc m) g = unsigned_abs-neg (pos (suc m / g))

pub lowest_terms-lowest : (n : ℤ) (d : ℕ) → 0 < d → IsLowest (lowest_terms n d)
lowest_terms-lowest n d positive =
    let g = gcd (unsigned_abs n) d in
    lowest_of_gcd (lowest_terms n d) (ap (λ m. gcd m (d / g)) (int_div-abs n g)
    ∙ gcd-quotients (unsigned_abs n) d positive)

-- Two fractions of one value in lowest terms are one.
same_denominator : (x e y f : ℕ) → 0 < e → 0 < f → gcd x e ≡ 1 → gcd y f ≡ 1 → x * f ≡ e * y → e ≡ f
same_denominator x e y f e_some f_some x_lowest y_lowest same =
    let P : ℕ → Type 0 = λ n. e ∣ n in
    let Q : ℕ → Type 0 = λ n. f ∣ n in
    let e_divides : e ∣ f = divides_other x e f f_some x_lowest (subst P (sym same) (dvd-mul_right e y)) in
    let f_divides : f ∣ e = divides_other y f e e_some y_lowest (subst Q (same ∙ mul_comm e y) (dvd-mul_left f x)) in
    dvd_antisymm e_divides f_divides

abs-product : (z : ℤ) (d : ℕ) → unsigned_abs (z *ℤ pos d) ≡ unsigned_abs z * d
abs-product (pos n) d = refl
abs-product (negsuc n) d = unsigned_abs-neg (pos (suc n * d))

only_lowest : (p q : Fraction) → 0 < p.denominator → 0 < q.denominator → IsLowest p → IsLowest q
    → p.numerator *ℤ pos q.denominator ≡ pos p.denominator *ℤ q.numerator → p ≡ q
only_lowest p q p_some q_some p_lowest q_lowest same =
    let by_size : unsigned_abs p.numerator * q.denominator ≡ p.denominator * unsigned_abs q.numerator =
    sym (abs-product p.numerator q.denominator) ∙ ap unsigned_abs (same ∙ *ℤ_comm (pos p.denominator) q.numerator)
    ∙ abs-product q.numerator p.denominator ∙ mul_comm (unsigned_abs q.numerator) p.denominator in
    let one : p.denominator ≡ q.denominator = same_denominator (unsigned_abs p.numerator) p.denominator
    (unsigned_abs q.numerator) q.denominator p_some q_some (gcd_of_lowest p p_lowest)
    (gcd_of_lowest q q_lowest) by_size in
    let numerators : p.numerator ≡ q.numerator = unscale_eq p.numerator q.numerator q.denominator q_some
    (same ∙ *ℤ_comm (pos p.denominator) q.numerator ∙ ap (λ d. q.numerator *ℤ pos d) one) in
    ap (λ n. record { numerator = n; denominator = p.denominator }) numerators
    ∙ ap (λ d. record { numerator = q.numerator; denominator = d }) one

-- a fraction in lowest terms with the value of n over d is the lowest terms of n over d
pub lowest_terms-only : (n : ℤ) (d : ℕ) → 0 < d → (q : Fraction) → 0 < q.denominator → HasValue n (pos d) q → IsLowest q
    → q ≡ lowest_terms n d
lowest_terms-only n d positive q q_some q_value q_lowest =
    let p = lowest_terms n d in
    let p_some = lowest_terms-positive n d positive in
    let cross_value : (q.numerator *ℤ pos p.denominator) *ℤ pos d ≡ (pos q.denominator *ℤ p.numerator) *ℤ pos d =
    scale-swap q.numerator p.denominator d
    ∙ ap (λ z. z *ℤ pos p.denominator) (q_value ∙ *ℤ_comm (pos q.denominator) n)
    ∙ scale-swap n q.denominator p.denominator
    ∙ ap (λ z. z *ℤ pos q.denominator) (*ℤ_comm n (pos p.denominator) ∙ sym (lowest_terms-same n d))
    ∙ scale-swap p.numerator d q.denominator
    ∙ ap (λ z. z *ℤ pos d) (*ℤ_comm p.numerator (pos q.denominator)) in
    only_lowest q p q_some p_some q_lowest (lowest_terms-lowest n d positive)
    (unscale_eq (q.numerator *ℤ pos p.denominator) (pos q.denominator *ℤ p.numerator) d positive cross_value)

pub are_lowest_terms : (n : ℤ) (d : ℕ) → 0 < d → AreLowestTerms n d
are_lowest_terms n d positive = record {
  same_value = lowest_terms-same n d;
  positive = lowest_terms-positive n d positive;
  lowest = lowest_terms-lowest n d positive;
  only = lowest_terms-only n d positive;
}
