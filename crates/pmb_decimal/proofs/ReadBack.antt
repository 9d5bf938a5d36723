-- A decimal reads back as its number of units. For the law `decimals_read_back`. The fraction of
-- those units is at no distance from them, so they are nearest; its denominator divides the power
-- of ten, so that many digits write it.
use Rattle.std.proofs.Common.{◌≡◌, ◌≢◌, ℕ, zero, suc, ◌+◌, ◌-◌, ◌%◌, ◌^◌, ◌<◌, ◌≤◌, Bool, true, eq-eqb, inl, inr, Some}
use Rattle.std.proofs.Common.{Ok, ℤ, pos, ◌-ℤ◌, ◌*ℤ◌, unsigned_abs, sym, ap, ◌∙◌, subst, arith}
use Rattle.std.specs.Int.{◌∣◌}
use Rattle.std.proofs.lemmas.Bool.{cases_Bool, false≢true}
use Rattle.std.proofs.lemmas.Int.{ints}
use Rattle.std.proofs.lemmas.Nat.Gcd.{mod-eq-zero_of_dvd}
use Rattle.std.proofs.Math.IntN.{*ℤ_comm}
use Rattle.std.proofs.Math.Nat.{div-mul_cancel, dvd-mul_right}
use Rattle.pmb_quantity.specs.Fraction.{Fraction, IsQuantity, gcd, lowest_terms}
use Rattle.pmb_quantity.specs.QuantityText.{first_of}
use Rattle.pmb_quantity.specs.Reading.{reading}
use Rattle.pmb_quantity.proofs.FractionLemmas.{IsGcd-gcd}
use Rattle.pmb_quantity.proofs.LawLemmas.{lowest_terms-same}
use Rattle.pmb_quantity.proofs.RoundTrip.{reads_back}
use Rattle.pmb_quantity.proofs.Scaling.{unscale_eq}
use Rattle.pmb_quantity.proofs.TextLemmas.{fits_places, places_of-is, first_of-passes, first_of-fails}
use Rattle.pmb_decimal.specs.Decimal.{IsNearestDecimal, distance, nearest, decimal_text, rounded_text}
use Rattle.pmb_decimal.proofs.Exact.{exact_is_spelling}
use Rattle.pmb_decimal.proofs.Nearest.{nearest_is_nearest}
use Rattle.pmb_decimal.proofs.OneNearest.{one_nearest}

-- ---- a fraction that is a number of units is nearest to it
no_distance : (a b : ℤ) → a ≡ b → unsigned_abs (a -ℤ b) ≡ 0
no_distance a b same = omega (arith, ints)

same_place : (a b : ℤ) → unsigned_abs (a -ℤ b) ≡ 0 → a ≡ b
same_place a b none = omega (arith, ints)

own_nearest : (digits : ℕ) (q : Fraction) (n : ℤ) → 0 < q.denominator
    → q.numerator *ℤ pos (10 ^ digits) ≡ n *ℤ pos q.denominator → IsNearestDecimal digits q n
unfolding distance
own_nearest digits q n positive same =
    let target = q.numerator *ℤ pos (10 ^ digits) in
    let own = no_distance target (n *ℤ pos q.denominator) same in
    record {
      none_nearer = λ m. omega (arith, own);
      even_at_tie = λ m other tie.
          absurd (other (unscale_eq m n q.denominator positive
          (sym (same_place target (m *ℤ pos q.denominator) (tie ∙ own)) ∙ same)));
    }

-- ---- so many digits write it
first_of-some : (test : ℕ → Bool) (from count k : ℕ) → from ≤ k → k < from + count → test k ≡ true
    → (j : ℕ) × (first_of test from count ≡ Some j) × (j ≤ k)
first_of-some test from zero k low high passes = absurd (omega arith)
first_of-some test from (suc count) k low high passes =
    elim (cases_Bool (test from)) [
      | inl here ↦ (from, first_of-passes test from (suc count) (omega arith) here, low)
      | inr fails ↦ (let other : from ≢ k = λ same. false≢true (sym fails ∙ ap test same ∙ passes) in
          let rest = first_of-some test (from + 1) count k (omega (arith, other)) (omega arith) passes in
          let less : suc count - 1 ≡ count = omega arith in (
            rest.0,
            first_of-fails test from (suc count) (omega arith) fails ∙ ap (first_of test (from + 1)) less
                ∙ rest.1,
            rest.2,
          ))
    ]

-- the denominator of units of 10^-digits in lowest terms divides 10^digits
fits : (digits : ℕ) (n : ℤ) → fits_places (lowest_terms n (10 ^ digits)).denominator digits ≡ true
fits digits n =
    let power = 10 ^ digits in
    let g = gcd (unsigned_abs n) power in
    let d = (lowest_terms n power).denominator in
    let divides : d ∣ power = subst (λ (x : ℕ). d ∣ x) (div-mul_cancel g (IsGcd-gcd (unsigned_abs n) power).1)
    (dvd-mul_right d g) in
    eq-eqb (power % d) 0 (mod-eq-zero_of_dvd d divides)

pub units_read_back : (digits : ℕ) (n : ℤ) → digits ≤ 24 → IsQuantity (lowest_terms n (10 ^ digits))
    → reading (decimal_text digits n) ≡ Ok (lowest_terms n (10 ^ digits))
unfolding rounded_text
units_read_back digits n few quantity =
    let q = lowest_terms n (10 ^ digits) in
    let same : q.numerator *ℤ pos (10 ^ digits) ≡ n *ℤ pos q.denominator = lowest_terms-same n (10 ^ digits)
    ∙ *ℤ_comm (pos q.denominator) n in
    let own = own_nearest digits q n quantity.positive same in
    let is_n : nearest digits q ≡ n = one_nearest digits q quantity.positive (nearest digits q) n
    (nearest_is_nearest digits q quantity.positive) own in
    let found = first_of-some (fits_places q.denominator) 0 25 digits (omega arith) (omega arith) (fits digits n) in
    let text : decimal_text digits n ≡ rounded_text digits q = ap (decimal_text digits) (sym is_n) in
    ap reading (text ∙ exact_is_spelling digits q quantity found.0 (places_of-is q.denominator ∙ found.1) found.2)
    ∙ reads_back q quantity
