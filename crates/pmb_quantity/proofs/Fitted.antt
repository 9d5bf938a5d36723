-- When a fraction in lowest terms is a quantity, with numerator and denominator below 2^62, and
-- when it is too large. For `Quantity::new`, `negated`, `from_parts`, `from_decimal`, the
-- functions of `parse.rt` and the laws. Both numbers are tested, and the other sign changes
-- neither test.
use Rattle.std.proofs.Common.{◌≡◌, ℕ, zero, suc, Bool, true, false, cond, ◌&&◌, ◌/◌, ◌^◌, ◌<◌, ◌≤◌, nat_lt, ℤ, pos}
use Rattle.std.proofs.Common.{negsuc, neg_ℤ, unsigned_abs, Ok, Err, refl, sym, ◌∙◌, ap, arith}
use Rattle.std.proofs.Math.Nat.{zero-div}
use Rattle.std.proofs.lemmas.Bool.Decides.{nat_tests}
use Rattle.pmb_quantity.specs.declared.quantity.QuantityFault.TheVariants.{TooLarge}
use Rattle.pmb_quantity.specs.Fraction.{Fraction, gcd, lowest_terms}
use Rattle.pmb_quantity.specs.Quantity.{fitted, negative, negated}

pub fitted-fits : (q : Fraction) → unsigned_abs q.numerator < 2 ^ 62 → q.denominator < 2 ^ 62 → fitted q ≡ Ok q
fitted-fits q numerator_fits denominator_fits = grind (arith, nat_tests)

pub fitted-numerator : (q : Fraction) → 2 ^ 62 ≤ unsigned_abs q.numerator → fitted q ≡ Err TooLarge
fitted-numerator q large = grind (arith, nat_tests)

pub fitted-denominator : (q : Fraction) → 2 ^ 62 ≤ q.denominator → fitted q ≡ Err TooLarge
fitted-denominator q large = grind (arith, nat_tests)

-- the same of lowest terms, by the two quotients
module _ (n d : ℕ) where
  pub lowest-fits : n / gcd n d < 2 ^ 62 → d / gcd n d < 2 ^ 62
      → fitted (lowest_terms (pos n) d) ≡ Ok (record { numerator = pos (n / gcd n d); denominator = d / gcd n d })
  lowest-fits n_fits d_fits =
      fitted-fits (record { numerator = pos (n / gcd n d); denominator = d / gcd n d }) n_fits d_fits

  pub lowest-numerator : 2 ^ 62 ≤ n / gcd n d → fitted (lowest_terms (pos n) d) ≡ Err TooLarge
  lowest-numerator large =
      fitted-numerator (record { numerator = pos (n / gcd n d); denominator = d / gcd n d }) large

  pub lowest-denominator : 2 ^ 62 ≤ d / gcd n d → fitted (lowest_terms (pos n) d) ≡ Err TooLarge
  lowest-denominator large =
      fitted-denominator (record { numerator = pos (n / gcd n d); denominator = d / gcd n d }) large

-- the other sign
pub unsigned_abs-neg : (z : ℤ) → unsigned_abs (neg_ℤ z) ≡ unsigned_abs z
unsigned_abs-neg (pos zero) = refl
unsigned_abs-neg (pos (suc n)) = refl
unsigned_abs-neg (negsuc n) = refl

negated-cond : (b : Bool) (q : Fraction) → negated (cond b (Ok q) (Err TooLarge))
    ≡ cond b (Ok (negative q)) (Err TooLarge)
negated-cond true q = refl
negated-cond false q = refl

pub negated-fitted : (q : Fraction) → negated (fitted q) ≡ fitted (negative q)
negated-fitted q =
    negated-cond (nat_lt (unsigned_abs q.numerator) (2 ^ 62) && nat_lt q.denominator (2 ^ 62)) q
    ∙ ap (λ n. cond (nat_lt n (2 ^ 62) && nat_lt q.denominator (2 ^ 62)) (Ok (negative q)) (Err TooLarge))
    (sym (unsigned_abs-neg q.numerator))

pub lowest_terms-negative : (n d : ℕ) → negative (lowest_terms (pos n) d) ≡ lowest_terms (neg_ℤ (pos n)) d
lowest_terms-negative zero d =
    ap (λ x. record { numerator = x; denominator = d / gcd 0 d })
    (ap (λ x. neg_ℤ (pos x)) (zero-div (gcd 0 d)) ∙ ap pos (sym (zero-div (gcd 0 d))))
lowest_terms-negative (suc n) d = refl

pub negated-lowest : (n d : ℕ) → negated (fitted (lowest_terms (pos n) d)) ≡ fitted (lowest_terms (neg_ℤ (pos n)) d)
negated-lowest n d = negated-fitted (lowest_terms (pos n) d) ∙ ap fitted (lowest_terms-negative n d)
