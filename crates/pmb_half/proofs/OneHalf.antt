-- Half precision is separated: each value has one canonical code, and between two of one parity
-- lies another. For `obeys_laws` of `HalfFormat`. The lower 15 bits of codes rise with their
-- magnitudes, and 0 and -0 alone have one value.
use Rattle.std.proofs.Common.{◌≡◌, ℕ, ◌+◌, ◌%◌, ◌^◌, ◌<◌, ◌⊎◌, inl, inr, pos, neg_ℤ, ◌<ℤ◌, refl, ap, arith}
use Rattle.std.proofs.lemmas.Int.{ints}
use Rattle.std.proofs.lemmas.Bool.{cases_lt, cases_eq}
use Rattle.pmb_format.proofs.OneNearest.{IsSeparated}
use Rattle.pmb_half.specs.Half.{exponent_field, magnitude, half_numerator, half}
use Rattle.pmb_half.proofs.Magnitudes.{rises, order_of, same_index, positive_value, negative_value, is_code}
use Rattle.pmb_half.proofs.Magnitudes.{is_negative_code, plus, minus, sides}

zero_magnitude : magnitude 0 ≡ 0
zero_magnitude = refl

-- only the index 0 has the magnitude 0
some_magnitude : (m : ℕ) → m < 31744 → 0 < m → 0 < magnitude m
some_magnitude m low some = omega (arith, rises 0 m some low, zero_magnitude)

-- a code of each sign has one value only where both indices are 0
both_zero : (m n : ℕ) → m < 31744 → n < 31744 → pos (magnitude m) ≡ neg_ℤ (pos (magnitude n)) → n ≡ 0
both_zero m n m_low n_low same =
    elim (cases_eq n 0) [
      | inl none ↦ none
      | inr some ↦ absurd (omega (arith, ints, same, some_magnitude n n_low (omega (arith, some))))
    ]

one_code : (a b : ℕ) → half.IsCode a → half.IsCode b → half.IsCanonical a → half.IsCanonical b
    → half_numerator a ≡ half_numerator b → a ≡ b
one_code a b a_code b_code a_canonical b_canonical same =
    elim (sides a a_code) [
      | plus m m_low a_is a_value ↦
          elim (sides b b_code) [
            | plus n n_low b_is b_value ↦
                let index = same_index m n m_low n_low (omega (arith, ints, same, a_value, b_value)) in
                omega (arith, index, a_is, b_is)
            | minus n n_low b_is b_value ↦
                let none = both_zero m n m_low n_low (omega (arith, ints, same, a_value, b_value)) in
                absurd (b_canonical (omega (arith, none, b_is)))
          ]
      | minus m m_low a_is a_value ↦
          elim (sides b b_code) [
            | plus n n_low b_is b_value ↦
                let none = both_zero n m n_low m_low (omega (arith, ints, same, a_value, b_value)) in
                absurd (a_canonical (omega (arith, none, a_is)))
            | minus n n_low b_is b_value ↦
                let index = same_index m n m_low n_low (omega (arith, ints, same, a_value, b_value)) in
                omega (arith, index, a_is, b_is)
          ]
    ]

-- -0 is written as 0, and each other code as itself
canonical_codes : (k : ℕ) → half.IsCode k
    → (c : ℕ) × half.IsCode c × half.IsCanonical c × (half_numerator c ≡ half_numerator k)
canonical_codes k code =
    elim (cases_eq k 32768) [
      | inl zero ↦ (0, is_code 0 (omega arith), λ same. omega (arith, same), omega (arith, ints, ap half_numerator zero))
      | inr other ↦ (k, code, other, refl)
    ]

-- a code between two
abbrev Between : ℕ → ℕ → Type 0
Between a b = (j : ℕ) × half.IsCode j × (half_numerator a <ℤ half_numerator j)
    × (half_numerator j <ℤ half_numerator b)

-- above 0 the next index lies between
between_above : (a b m n : ℕ) → m < 31744 → n < 31744 → half_numerator a ≡ pos (magnitude m)
    → half_numerator b ≡ pos (magnitude n) → m % 2 ≡ n % 2 → half_numerator a <ℤ half_numerator b → Between a b
between_above a b m n m_low n_low a_value b_value parity less =
    let order = order_of m n m_low (omega (arith, ints, less, a_value, b_value)) in
    let inside : m + 1 < n = omega (arith, parity, order) in
    let low : m + 1 < 31744 = omega (arith, inside, n_low) in (
      m + 1,
      is_code (m + 1) low,
      omega (arith, ints, a_value, positive_value (m + 1) low, rises m (m + 1) (omega arith) low),
      omega (arith, ints, b_value, positive_value (m + 1) low, rises (m + 1) n inside n_low),
    )

between_below : (a b m n : ℕ) → m < 31744 → n < 31744 → half_numerator a ≡ neg_ℤ (pos (magnitude m))
    → half_numerator b ≡ neg_ℤ (pos (magnitude n)) → m % 2 ≡ n % 2 → half_numerator a <ℤ half_numerator b → Between a b
between_below a b m n m_low n_low a_value b_value parity less =
    let order = order_of n m n_low (omega (arith, ints, less, a_value, b_value)) in
    let inside : n + 1 < m = omega (arith, parity, order) in
    let low : n + 1 < 31744 = omega (arith, inside, m_low) in (
      32768 + (n + 1),
      is_negative_code (n + 1) low,
      omega (arith, ints, a_value, negative_value (n + 1) low, rises (n + 1) m inside m_low),
      omega (arith, ints, b_value, negative_value (n + 1) low, rises n (n + 1) (omega arith) low),
    )

-- from below 0 to above it: 0, or the first below 0 where the upper one is 0
between_across : (a b m n : ℕ) → m < 31744 → n < 31744 → 0 < m → half_numerator a ≡ neg_ℤ (pos (magnitude m))
    → half_numerator b ≡ pos (magnitude n) → m % 2 ≡ n % 2 → Between a b
between_across a b m n m_low n_low some a_value b_value parity =
    elim (cases_eq n 0) [
      | inl zero ↦
          let inside : 1 < m = omega (arith, parity, zero, some) in (
            32769,
            is_negative_code 1 (omega arith),
            omega (arith, ints, a_value, negative_value 1 (omega arith), rises 1 m inside m_low),
            omega (arith, ints, b_value, negative_value 1 (omega arith), rises 0 1 (omega arith) (omega arith)),
          )
      | inr more ↦ (
        0,
        is_code 0 (omega arith),
        omega (arith, ints, a_value, positive_value 0 (omega arith), zero_magnitude, some_magnitude m m_low some),
        omega (
          arith,
          ints,
          b_value,
          positive_value 0 (omega arith),
          zero_magnitude,
          some_magnitude n n_low (omega (arith, more)),
        ),
      )
    ]

between : (a b : ℕ) → half.IsCode a → half.IsCode b → half.IsCanonical a → half.IsCanonical b → a % 2 ≡ b % 2
    → half_numerator a <ℤ half_numerator b → Between a b
between a b a_code b_code a_canonical b_canonical parity less =
    elim (sides a a_code) [
      | plus m m_low a_is a_value ↦
          elim (sides b b_code) [
            | plus n n_low b_is b_value ↦ between_above a b m n m_low n_low a_value b_value
                (omega (arith, a_is, b_is, parity)) less
            | minus n n_low b_is b_value ↦ absurd (omega (arith, ints, less, a_value, b_value))
          ]
      | minus m m_low a_is a_value ↦
          elim (sides b b_code) [
            | plus n n_low b_is b_value ↦
                let some : 0 < m = elim (cases_eq m 0) [
                  | inl none ↦ absurd (a_canonical (omega (arith, none, a_is)))
                  | inr more ↦ omega (arith, more)
                ] in
                between_across a b m n m_low n_low some a_value b_value (omega (arith, a_is, b_is, parity))
            | minus n n_low b_is b_value ↦ between_below a b m n m_low n_low a_value b_value
                (omega (arith, a_is, b_is, parity)) less
          ]
    ]

pub IsSeparated-half : IsSeparated half
IsSeparated-half = record {
  one_code = one_code;
  canonical_codes = canonical_codes;
  between = between;
}

-- ---- for the law that quantities have answers

pub decide_half : (k : ℕ) → half.IsCode k ⊎ (half.IsCode k → ⊥)
decide_half k =
    elim (cases_lt k (2 ^ 16)) [
      | inr large ↦ inr (λ code. omega (arith, large, code.0))
      | inl word ↦
          elim (cases_eq (exponent_field k) 31) [
            | inl last ↦ inr (λ code. code.1 last)
            | inr other ↦ inl (word, other)
          ]
    ]

pub some_code : (k : ℕ) × half.IsCode k
some_code = (0, is_code 0 (omega arith))
