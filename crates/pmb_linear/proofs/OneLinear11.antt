-- LINEAR11 is separated: each value has one canonical code, and between two of one parity lies
-- another. For `obeys_laws` of `Linear11Format`. The least exponent of a value is one, and a word
-- is known by its two fields.
use Rattle.std.proofs.Common.{◌≡◌, ◌≢◌, ℕ, ◌+◌, ◌-◌, ◌/◌, ◌%◌, ◌^◌, ◌<◌, inl, inr, pos, ◌+ℤ◌, ◌*ℤ◌, ◌≤ℤ◌, unsigned_abs}
use Rattle.std.proofs.Common.{sym, ap, ◌∙◌, arith}
use Rattle.std.proofs.lemmas.Int.{ints}
use Rattle.std.proofs.lemmas.Bool.{cases_lt, cases_eq}
use Rattle.std.proofs.lemmas.Nat.{pow_pos}
use Rattle.pmb_format.specs.Coding.{IsWord}
use Rattle.pmb_format.specs.Words.{twos_complement}
use Rattle.pmb_linear.specs.Linear.{exponent, mantissa, linear11_numerator, IsCanonicalLinear11, linear11}
use Rattle.pmb_quantity.proofs.Scaling.{unscale_eq}
use Rattle.pmb_format.proofs.Words.{complement_low, complement_high}
use Rattle.pmb_linear.proofs.Linear11Lemmas.{steps, zero_value, canonical_code, between}
use Rattle.pmb_format.proofs.OneNearest.{IsSeparated}

-- two fields of one number are one
same_field : (bits j k : ℕ) → 2 ^ (bits - 1) + 2 ^ (bits - 1) ≡ 2 ^ bits → j < 2 ^ bits → k < 2 ^ bits
    → twos_complement bits j ≡ twos_complement bits k → j ≡ k
same_field bits j k halves j_fits k_fits same =
    elim (cases_lt j (2 ^ (bits - 1))) [
      | inl j_low ↦
          let j_is = complement_low bits j j_low in
          elim (cases_lt k (2 ^ (bits - 1))) [
            | inl k_low ↦ let k_is = complement_low bits k k_low in omega (arith, ints)
            | inr k_high ↦ let k_is = complement_high bits k k_high in absurd (omega (arith, ints))
          ]
      | inr j_high ↦
          let j_is = complement_high bits j j_high in
          elim (cases_lt k (2 ^ (bits - 1))) [
            | inl k_low ↦ let k_is = complement_low bits k k_low in absurd (omega (arith, ints))
            | inr k_high ↦ let k_is = complement_high bits k k_high in omega (arith, ints)
          ]
    ]

-- two codes of one mantissa and one exponent are one
same_code : (a b : ℕ) → IsWord a → IsWord b → mantissa a ≡ mantissa b → exponent a ≡ exponent b → a ≡ b
same_code a b a_code b_code same_mantissa same_exponent =
    let low : a % 2048 ≡ b % 2048 = same_field 11 (a % 2048) (b % 2048) (omega arith) (omega arith)
    (omega arith) same_mantissa in
    let high : a / 2048 ≡ b / 2048 = same_field 5 (a / 2048) (b / 2048) (omega arith) (omega arith)
    (omega arith) same_exponent in
    omega (arith, low, high)

-- each value but 0 has one code with the least exponent
one_other_code : (a b : ℕ) → IsWord a → IsWord b → IsCanonicalLinear11 a → IsCanonicalLinear11 b
    → linear11_numerator a ≡ linear11_numerator b → linear11_numerator a ≢ pos 0 → a ≡ b
one_other_code a b a_code b_code a_canonical b_canonical same some =
    let at_most : exponent a ≤ℤ exponent b = a_canonical.least_exponent some b b_code (sym same) in
    let at_least : exponent b ≤ℤ exponent a = b_canonical.least_exponent (λ none. some (same ∙ none)) a a_code same in
    let same_exponent : exponent a ≡ exponent b = omega (arith, ints, at_most, at_least) in
    let same_steps : steps b ≡ steps a = ap (λ e. unsigned_abs (e +ℤ pos 16)) (sym same_exponent) in
    let same_mantissa : mantissa a ≡ mantissa b = unscale_eq (mantissa a) (mantissa b) (2 ^ steps a) (pow_pos (steps a))
    (same ∙ ap (λ s. mantissa b *ℤ pos (2 ^ s)) same_steps) in
    same_code a b a_code b_code same_mantissa same_exponent

-- each value has one canonical code
one_code : (a b : ℕ) → IsWord a → IsWord b → IsCanonicalLinear11 a → IsCanonicalLinear11 b
    → linear11_numerator a ≡ linear11_numerator b → a ≡ b
one_code a b a_code b_code a_canonical b_canonical same =
    elim (cases_eq a 0) [
      | inl zero ↦ zero ∙ sym (b_canonical.zero (sym same ∙ ap linear11_numerator zero ∙ zero_value))
      | inr other ↦ one_other_code a b a_code b_code a_canonical b_canonical same
          (λ none. other (a_canonical.zero none))
    ]

pub IsSeparated-linear11 : IsSeparated linear11
IsSeparated-linear11 = record {
  one_code = one_code;
  canonical_codes = canonical_code;
  between = between;
}
