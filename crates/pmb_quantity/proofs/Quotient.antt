-- The quantity of one number by another: for `Quantity::new` and `Quantity::negated`. The quotient
-- is the lowest terms with the value, or too large, and then no quantity has it; both signs may
-- change.
use Rattle.std.proofs.Common.{◌≡◌, ℕ, zero, suc, ◌^◌, ◌<◌, inl, inr, ℤ, pos, negsuc, neg_ℤ, ◌*ℤ◌, unsigned_abs, Result}
use Rattle.std.proofs.Common.{Ok, Err, IfOk, sym, ap, ◌∙◌, subst, arith}
use Rattle.std.specs.Int.{◌∣◌}
use Rattle.std.proofs.Math.Nat.{div-le_self}
use Rattle.std.proofs.Math.IntN.{*ℤ-zero, *ℤ-negsuc, neg_ℤ-neg_ℤ}
use Rattle.pmb_quantity.specs.declared.quantity.QuantityFault.{QuantityFault}
use Rattle.pmb_quantity.specs.declared.quantity.QuantityFault.TheVariants.{TooLarge}
use Rattle.pmb_quantity.specs.Fraction.{Fraction, HasValue, IsLowest, IsQuantity, gcd, lowest_terms}
use Rattle.pmb_quantity.specs.Quantity.{fitted, negative, quotient}
use Rattle.pmb_quantity.proofs.Fitted.{fitted-fits, fitted-numerator, fitted-denominator, unsigned_abs-neg}
use Rattle.pmb_quantity.proofs.LawLemmas.{int_div-abs, lowest_terms-same, lowest_terms-only}
use Rattle.std.proofs.lemmas.Bool.{cases_lt}

*ℤ-neg : (m n : ℤ) → m *ℤ neg_ℤ n ≡ neg_ℤ (m *ℤ n)
*ℤ-neg m (pos zero) = *ℤ-zero m ∙ sym (ap neg_ℤ (*ℤ-zero m))
*ℤ-neg m (pos (suc k)) = *ℤ-negsuc m k
*ℤ-neg m (negsuc k) = sym (ap neg_ℤ (*ℤ-negsuc m k) ∙ neg_ℤ-neg_ℤ (m *ℤ pos (suc k)))

-- the other sign keeps lowest terms
pub IsQuantity-negative : (q : Fraction) → IsQuantity q → IsQuantity (negative q)
unfolding IsLowest
IsQuantity-negative q is = record {
  numerator_fits = omega (arith, unsigned_abs-neg q.numerator, is.numerator_fits);
  denominator_fits = is.denominator_fits;
  positive = is.positive;
  lowest = subst (λ m. (k : ℕ) → k ∣ m → k ∣ q.denominator → k ≡ 1) (sym (unsigned_abs-neg q.numerator)) is.lowest;
}

-- what fits is the fraction itself
fitted-is : (p q : Fraction) → Ok q ≡ fitted p → q ≡ p
fitted-is p q is =
    elim (cases_lt (unsigned_abs p.numerator) (2 ^ 62)) [
      | inl n_fits ↦
          elim (cases_lt p.denominator (2 ^ 62)) [
            | inl d_fits ↦ let same : Ok q ≡ Ok p = is ∙ fitted-fits p n_fits d_fits in cc
            | inr large ↦ absurd (let wrong : Ok q ≡ Err TooLarge = is ∙ fitted-denominator p large in cc)
          ]
      | inr large ↦ absurd (let wrong : Ok q ≡ Err TooLarge = is ∙ fitted-numerator p large in cc)
    ]

-- the sign of both numbers changes no value
minus_value : (n : ℤ) (d : ℕ) (q : Fraction) → HasValue (neg_ℤ n) (pos (suc d)) q → HasValue n (negsuc d) q
minus_value n d q same =
    *ℤ-negsuc q.numerator d ∙ ap neg_ℤ same ∙ ap neg_ℤ (*ℤ-neg (pos q.denominator) n)
    ∙ neg_ℤ-neg_ℤ (pos q.denominator *ℤ n)

value_minus : (n : ℤ) (d : ℕ) (q : Fraction) → HasValue n (negsuc d) q → HasValue (neg_ℤ n) (pos (suc d)) q
value_minus n d q same =
    sym (neg_ℤ-neg_ℤ (q.numerator *ℤ pos (suc d))) ∙ ap neg_ℤ (sym (*ℤ-negsuc q.numerator d) ∙ same)
    ∙ sym (*ℤ-neg (pos q.denominator) n)

value-of_fitted : (n : ℤ) (d : ℕ) (q : Fraction) → Ok q ≡ fitted (lowest_terms n (suc d)) → HasValue n (pos (suc d)) q
value-of_fitted n d q is =
    let P : Fraction → Type 0 = λ p. HasValue n (pos (suc d)) p in
    subst P (sym (fitted-is (lowest_terms n (suc d)) q is)) (lowest_terms-same n (suc d))

by_sign : (n z : ℤ) (q : Fraction) → Ok q ≡ quotient n z → HasValue n z q
by_sign n (pos zero) q is = absurd (let wrong = is in cc)
by_sign n (pos (suc d)) q is = value-of_fitted n d q is
by_sign n (negsuc d) q is = minus_value n d q (value-of_fitted (neg_ℤ n) d q is)

pub quotient-value : (n z : ℤ) (r : Result Fraction QuantityFault) → r ≡ quotient n z → IfOk r (HasValue n z)
quotient-value n z (Ok q) is = by_sign n z q is
quotient-value n z (Err fault) is = tt

-- a quantity of the value fits
none-of_fitted : (n : ℤ) (d : ℕ) → Err TooLarge ≡ fitted (lowest_terms n (suc d)) → (q : Fraction) → IsQuantity q
    → HasValue n (pos (suc d)) q → ⊥
none-of_fitted n d is q q_is same =
    let one : q ≡ lowest_terms n (suc d) = lowest_terms-only n (suc d) (omega arith) q q_is.positive same q_is.lowest in
    let wrong : Err TooLarge ≡ Ok q = is ∙ ap fitted (sym one)
    ∙ fitted-fits q q_is.numerator_fits q_is.denominator_fits in
    cc

pub quotient-none : (n z : ℤ) (r : Result Fraction QuantityFault) → r ≡ quotient n z → r ≡ Err TooLarge → (q : Fraction)
    → IsQuantity q → HasValue n z q → ⊥
quotient-none n (pos zero) r is large q q_is same = absurd (let wrong = sym large ∙ is in cc)
quotient-none n (pos (suc d)) r is large q q_is same = none-of_fitted n d (sym large ∙ is) q q_is same
quotient-none n (negsuc d) r is large q q_is same =
    none-of_fitted (neg_ℤ n) d (sym large ∙ is) q q_is (value_minus n d q same)

-- two numbers in range
pub quotient-in_range : (n z : ℤ) (r : Result Fraction QuantityFault) → r ≡ quotient n z → (d : ℕ) → z ≡ pos d → 0 < d
    → d < 2 ^ 62 → unsigned_abs n < 2 ^ 62 → r ≡ Ok (lowest_terms n d)
quotient-in_range n z r is zero z_is some d_fits n_fits = absurd (omega arith)
quotient-in_range n z r is (suc d) z_is some d_fits n_fits =
    let g = gcd (unsigned_abs n) (suc d) in
    is ∙ ap (quotient n) z_is ∙ fitted-fits (lowest_terms n (suc d))
    (omega (arith, int_div-abs n g, div-le_self (unsigned_abs n) g)) (omega (arith, div-le_self (suc d) g))
