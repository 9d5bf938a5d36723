-- The mean of one value has the text of that value: for the law `one_mean_is_value`. Its numerator
-- and its denominator are those of the value times one factor, which changes neither the quotient
-- nor on which side of half the rest is.
use Rattle.std.proofs.Common.{◌≡◌, ℕ, zero, suc, ◌+◌, ◌*◌, ◌/◌, ◌%◌, ◌^◌, ◌<◌}
use Rattle.std.proofs.Common.{inl, inr, [], ◌∷◌, ℤ, pos, negsuc, neg_ℤ, ◌*ℤ◌, unsigned_abs, refl, sym, ap}
use Rattle.std.proofs.Common.{◌∙◌, arith}
use Rattle.std.proofs.lemmas.Bool.{cases_eq, cases_lt}
use Rattle.std.proofs.lemmas.Int.{unsigned_abs-mul}
use Rattle.std.proofs.lemmas.Nat.{div-add-mod', div-mul-add, mod-mul-add, mod_below}
use Rattle.std.proofs.Math.IntN.{+ℤ_idl}
use Rattle.std.proofs.Math.Nat.{add-mul, div-mul_cancel, mul_assoc, mul_comm, mul_right_comm}
use Rattle.std.proofs.Math.Nat.{mul-lt-mul_of_pos_right}
use Rattle.pmb_quantity.specs.Fraction.{Fraction}
use Rattle.pmb_decimal.specs.Decimal.{decimal_text, half_even, nearest, rounded_text, with_sign}
use Rattle.pmb_decimal.proofs.HalfEven.{half_even-down, half_even-tie, half_even-up}
use Rattle.pmb_mean.specs.MeanText.{mean_text}
use Rattle.pmb_mean.specs.Numbers.{FitsKind, NumberData, denominator, numerator}

-- ---- a quotient of both numbers times a factor
module _ (n d k : ℕ) (positive : 0 < d) (factor : 0 < k) where
  abbrev quotient : ℕ
  quotient = n / d

  abbrev rest : ℕ
  rest = n % d

  rest_below : rest * k < d * k
  rest_below = mul-lt-mul_of_pos_right (mod_below n d positive) factor

  split : n * k ≡ quotient * (d * k) + rest * k
  split =
      ap (λ x. x * k) (sym (div-add-mod' n d)) ∙ add-mul (quotient * d) rest k
      ∙ ap (λ x. x + rest * k) (mul_assoc quotient d k)

  same_quotient : n * k / (d * k) ≡ quotient
  same_quotient = ap (λ x. x / (d * k)) split ∙ div-mul-add quotient (d * k) (rest * k) rest_below

  same_rest : n * k % (d * k) ≡ rest * k
  same_rest = ap (λ x. x % (d * k)) split ∙ mod-mul-add quotient (d * k) (rest * k) rest_below

  doubled : rest * k * 2 ≡ rest * 2 * k
  doubled = mul_right_comm rest k 2

  -- on the same side of half
  same_rounding : half_even (n * k) (d * k) ≡ half_even n d
  same_rounding =
      elim (cases_lt (rest * 2) d) [
        | inl less ↦
            let scaled : rest * 2 * k < d * k = mul-lt-mul_of_pos_right less factor in
            half_even-down (n * k) (d * k) (omega (arith, same_rest, doubled, scaled)) ∙ same_quotient
            ∙ sym (half_even-down n d less)
        | inr at_least ↦
            elim (cases_eq (rest * 2) d) [
              | inl tie ↦
                  let scaled : rest * 2 * k ≡ d * k = ap (λ x. x * k) tie in
                  half_even-tie (n * k) (d * k) (omega (arith, same_rest, doubled, scaled))
                  ∙ ap (λ x. x + x % 2) same_quotient ∙ sym (half_even-tie n d tie)
              | inr other ↦
                  let more : d < rest * 2 = omega (arith, other) in
                  let scaled : d * k < rest * 2 * k = mul-lt-mul_of_pos_right more factor in
                  half_even-up (n * k) (d * k) (omega (arith, same_rest, doubled, scaled))
                  ∙ ap (λ x. x + 1) same_quotient ∙ sym (half_even-up n d more)
            ]
      ]

-- ---- a fraction of both numbers times a factor
-- the sign stays
negative_sign : (n units : ℕ) → 0 < n → with_sign (neg_ℤ (pos n)) units ≡ neg_ℤ (pos units)
negative_sign zero units some = absurd (omega arith)
negative_sign (suc n) units some = refl

same_sign : (z : ℤ) (k units : ℕ) → with_sign (z *ℤ pos (suc k)) units ≡ with_sign z units
same_sign (pos n) k units = refl
same_sign (negsuc n) k units =
    let product = mul-lt-mul_of_pos_right {m = 0} {n = suc n} {k = suc k} (omega arith) (omega arith) in
    let some : 0 < suc n * suc k = omega (arith, product) in
    negative_sign (suc n * suc k) units some

same_text : (digits : ℕ) (q : Fraction) (d k : ℕ) → 0 < q.denominator → 0 < d → q.denominator * k ≡ d
    → rounded_text digits (record { numerator = q.numerator *ℤ pos k; denominator = d }) ≡ rounded_text digits q
unfolding rounded_text nearest
same_text digits q d zero positive some is = absurd (omega (arith, is))
same_text digits q d (suc k) positive some is =
    let unit = 10 ^ digits in
    let size = unsigned_abs q.numerator in
    let order : size * suc k * unit ≡ size * unit * suc k = mul_right_comm size (suc k) unit in
    let units : half_even (unsigned_abs (q.numerator *ℤ pos (suc k)) * unit) d ≡ half_even (size * unit) q.denominator =
    ap (λ x. half_even (x * unit) d) (unsigned_abs-mul q.numerator (pos (suc k)))
    ∙ ap (λ x. half_even x d) order ∙ ap (half_even (size * unit * suc k)) (sym is)
    ∙ same_rounding (size * unit) q.denominator (suc k) positive (omega arith) in
    ap (λ n. decimal_text digits (with_sign (q.numerator *ℤ pos (suc k)) n)) units
    ∙ ap (decimal_text digits) (same_sign q.numerator k (half_even (size * unit) q.denominator))

pub one_value : (digits : ℕ) (n : NumberData) → FitsKind n → mean_text digits (n ∷ []) ≡ rounded_text digits n.value
one_value digits n is =
    let d = denominator n.over in
    let k = d / n.value.denominator in
    let whole : n.value.denominator * k ≡ d * 1 =
    mul_comm n.value.denominator k ∙ div-mul_cancel n.value.denominator is.divides ∙ omega arith in
    ap (λ (z : ℤ). rounded_text digits (record { numerator = z; denominator = d * 1 })) (+ℤ_idl (numerator n))
    ∙ same_text digits n.value (d * 1) k is.positive (omega (arith, is.some)) whole
