-- A number with digits after a point, in lowest terms: for `Quantity::from_decimal`. The code
-- takes the common twos and fives out of n over 10^p; what is left has no divisor in common, since
-- 10^p has no other factors.
use Rattle.std.proofs.Common.{◌≡◌, ℕ, ◌-◌, ◌*◌, ◌/◌, ◌^◌, ◌≤◌, pos, sym, ap, ◌∙◌, subst, arith}
use Rattle.std.specs.Int.{◌∣◌}
use Rattle.std.proofs.lemmas.Nat.{pow_pos}
use Rattle.std.proofs.Math.Nat.{mul_assoc, div-mul_cancel, div-one, dvd-mul_right}
use Rattle.pmb_quantity.specs.Fraction.{Fraction, gcd, lowest_terms}
use Rattle.pmb_quantity.proofs.FractionLemmas.{IsGcd-gcd, coprime_divisor, coprime_product}
use Rattle.pmb_quantity.proofs.ReadingLemmas.{lowest_terms-scale}
use Rattle.pmb_quantity.proofs.Tens.{ten_parts, parts_positive, factor_at_most}
use Rattle.pmb_quantity.proofs.Twos.{halved_coprime}

-- a fraction without a common divisor is in lowest terms
lowest_alone : (n d : ℕ) → gcd n d ≡ 1 → lowest_terms (pos n) d ≡ record { numerator = pos n; denominator = d }
lowest_alone n d one =
    let made : ℕ → ℕ → Fraction = λ x y. record { numerator = pos x; denominator = y } in
    ap (λ g. made (n / g) (d / g)) one ∙ ap (λ x. made x (d / 1)) (div-one n) ∙ ap (made n) (div-one d)

-- The number n has t twos in common with 2^p. Without them it is rest times five to so many, and
-- rest has none in common with the l fives that are left.
module _ (n p t rest l : ℕ) (few_twos : t ≤ p) (few_fives : l ≤ p) (twos : gcd n (2 ^ p) ≡ 2 ^ t)
    (fives : rest * 5 ^ (p - l) ≡ n / 2 ^ t) (none : gcd rest (5 ^ l) ≡ 1) where
  numerator_is : rest * (5 ^ (p - l) * 2 ^ t) ≡ n
  numerator_is =
      let inside : 2 ^ t ∣ n = subst (λ (g : ℕ). g ∣ n) twos (IsGcd-gcd n (2 ^ p)).0 in
      sym (mul_assoc rest (5 ^ (p - l)) (2 ^ t)) ∙ ap (λ x. x * 2 ^ t) fives ∙ div-mul_cancel (2 ^ t) inside

  denominator_is : (5 ^ l * 2 ^ (p - t)) * (5 ^ (p - l) * 2 ^ t) ≡ 10 ^ p
  denominator_is =
      let others : p - (p - t) ≡ t = omega arith in
      ap (λ x. (5 ^ l * 2 ^ (p - t)) * (5 ^ (p - l) * 2 ^ x)) (sym others)
      ∙ ten_parts p l (p - t) few_fives (omega arith)

  pub decimal_coprime : gcd rest (5 ^ l * 2 ^ (p - t)) ≡ 1
  decimal_coprime =
      let inside : rest ∣ n / 2 ^ t = subst (λ (x : ℕ). rest ∣ x) fives (dvd-mul_right rest (5 ^ (p - l))) in
      coprime_product rest (5 ^ l) (2 ^ (p - t)) (pow_pos (p - t)) none
      (coprime_divisor rest (n / 2 ^ t) (2 ^ (p - t)) inside (halved_coprime n p t few_twos twos))

  pub decimal_lowest : lowest_terms (pos n) (10 ^ p)
      ≡ record { numerator = pos rest; denominator = 5 ^ l * 2 ^ (p - t) }
  decimal_lowest =
      let e = 5 ^ l * 2 ^ (p - t) in
      let k = 5 ^ (p - l) * 2 ^ t in
      ap (λ x. lowest_terms (pos x) (10 ^ p)) (sym numerator_is) ∙ ap (lowest_terms (pos (rest * k)))
      (sym denominator_is) ∙ lowest_terms-scale rest e k (parts_positive l (p - t)) (parts_positive (p - l) t)
      ∙ lowest_alone rest e decimal_coprime

  pub decimal_numerator : rest ≤ n
  decimal_numerator = omega (arith, numerator_is, factor_at_most rest (5 ^ (p - l) * 2 ^ t) (parts_positive (p - l) t))

  pub decimal_denominator : 5 ^ l * 2 ^ (p - t) ≤ 10 ^ p
  decimal_denominator =
      omega (
        arith,
        denominator_is,
        factor_at_most (5 ^ l * 2 ^ (p - t)) (5 ^ (p - l) * 2 ^ t)
            (parts_positive (p - l) t),
      )
