-- The codes of a VID table are separated: for `obeys_laws`, and the laws of VID tables in pmb_value.
-- Voltages rise or fall with their codes, so between two codes of one parity lies the code after the
-- smaller one.
use Rattle.std.proofs.Common.{◌≡◌, ℕ, ◌+◌, ◌%◌, ◌<◌, ◌⊎◌, inl, inr, ◌<ℤ◌, ap, refl, arith}
use Rattle.std.proofs.lemmas.Int.{ints}
use Rattle.std.proofs.lemmas.Bool.{cases_lt}
use Rattle.pmb_format.specs.Coding.{IsWord}
use Rattle.pmb_format.proofs.OneNearest.{IsSeparated}
use Rattle.pmb_vid.specs.declared.table.VidTable.{VidTable}
use Rattle.pmb_vid.specs.declared.table.VidTable.TheVariants.{Vr11, Vr12, Vr13, Imvp9, Amd625mv, Nvidia195mv}
use Rattle.pmb_vid.specs.Vid.{numerator, denominator, vid}

-- greater codes have more voltage
abbrev pub AreRising : VidTable → Type 0
AreRising table = (a b : ℕ) → a < b → numerator table a <ℤ numerator table b

-- .. or less
abbrev pub AreFalling : VidTable → Type 0
AreFalling table = (a b : ℕ) → a < b → numerator table b <ℤ numerator table a

pub rise_or_fall : (table : VidTable) → AreRising table ⊎ AreFalling table
rise_or_fall Vr11 = inr (λ a b less. omega (arith, ints))
rise_or_fall Vr12 = inl (λ a b less. omega (arith, ints))
rise_or_fall Vr13 = inl (λ a b less. omega (arith, ints))
rise_or_fall Imvp9 = inl (λ a b less. omega (arith, ints))
rise_or_fall Amd625mv = inr (λ a b less. omega (arith, ints))
rise_or_fall Nvidia195mv = inl (λ a b less. omega (arith, ints))

module _ (table : VidTable) where
  -- codes of one voltage are equal
  one_code : (a b : ℕ) → numerator table a ≡ numerator table b → a ≡ b
  one_code a b same =
      elim (cases_lt a b) [
        | inl less ↦ elim (rise_or_fall table) [
          | inl rise ↦ let order = rise a b less in absurd (omega (arith, ints, order, same))
          | inr fall ↦ let order = fall a b less in absurd (omega (arith, ints, order, same))
        ]
        | inr others ↦
            elim (cases_lt b a) [
              | inl more ↦ elim (rise_or_fall table) [
                | inl rise ↦ let order = rise b a more in absurd (omega (arith, ints, order, same))
                | inr fall ↦ let order = fall b a more in absurd (omega (arith, ints, order, same))
              ]
              | inr none ↦ omega arith
            ]
      ]

  -- where voltages rise, the greater voltage has the greater code
  less_rising : AreRising table → (a b : ℕ) → numerator table a <ℤ numerator table b → a < b
  less_rising rise a b less =
      elim (cases_lt a b) [
        | inl order ↦ order
        | inr other ↦ elim (cases_lt b a) [
          | inl more ↦ let turned = rise b a more in absurd (omega (arith, ints, turned, less))
          | inr none ↦
              let same : a ≡ b = omega arith in
              let value = ap (numerator table) same in
              absurd (omega (arith, ints, value, less))
        ]
      ]

  -- where they fall, the smaller
  less_falling : AreFalling table → (a b : ℕ) → numerator table a <ℤ numerator table b → b < a
  less_falling fall a b less =
      elim (cases_lt b a) [
        | inl order ↦ order
        | inr other ↦ elim (cases_lt a b) [
          | inl more ↦ let turned = fall a b more in absurd (omega (arith, ints, turned, less))
          | inr none ↦
              let same : a ≡ b = omega arith in
              let value = ap (numerator table) same in
              absurd (omega (arith, ints, value, less))
        ]
      ]

  between : (a b : ℕ) → (vid table).IsCode a → (vid table).IsCode b → a % 2 ≡ b % 2
      → numerator table a <ℤ numerator table b
      → (j : ℕ) × (vid table).IsCode j × (numerator table a <ℤ numerator table j)
      × (numerator table j <ℤ numerator table b)
  between a b a_code b_code parity less =
      elim (rise_or_fall table) [
        | inl rise ↦
            let order = less_rising rise a b less in
            let apart : a + 1 < b = omega (arith, order, parity) in (
              a + 1,
              (omega (arith, a_code.0), omega (arith, b_code.1, apart)),
              rise a (a + 1) (omega arith),
              rise (a + 1) b apart,
            )
        | inr fall ↦
            let order = less_falling fall a b less in
            let apart : b + 1 < a = omega (arith, order, parity) in (
              b + 1,
              (omega (arith, b_code.0), omega (arith, a_code.1, apart)),
              fall (b + 1) a apart,
              fall b (b + 1) (omega arith),
            )
      ]

  pub IsSeparated-vid : IsSeparated (vid table)
  IsSeparated-vid = record {
    one_code = λ a b a_code b_code a_canonical b_canonical same. one_code a b same;
    canonical_codes = λ k code. (k, code, tt, refl);
    between = λ a b a_code b_code a_canonical b_canonical parity less. between a b a_code b_code parity less;
  }

-- each code is a word
pub codes_are_words : (table : VidTable) (k : ℕ) → (vid table).IsCode k → IsWord k
codes_are_words Vr11 k code = omega (arith, code.1)
codes_are_words Vr12 k code = omega (arith, code.1)
codes_are_words Vr13 k code = omega (arith, code.1)
codes_are_words Imvp9 k code = omega (arith, code.1)
codes_are_words Amd625mv k code = omega (arith, code.1)
codes_are_words Nvidia195mv k code = omega (arith, code.1)

-- some word is a code: the first
pub has_codes : (table : VidTable) → (k : ℕ) × (vid table).IsCode k
has_codes Vr11 = (2, (omega arith, omega arith))
has_codes Vr12 = (1, (omega arith, omega arith))
has_codes Vr13 = (1, (omega arith, omega arith))
has_codes Imvp9 = (1, (omega arith, omega arith))
has_codes Amd625mv = (0, (omega arith, omega arith))
has_codes Nvidia195mv = (1, (omega arith, omega arith))

pub denominator_positive : (table : VidTable) → 0 < denominator table
denominator_positive Vr11 = omega arith
denominator_positive Vr12 = omega arith
denominator_positive Vr13 = omega arith
denominator_positive Imvp9 = omega arith
denominator_positive Amd625mv = omega arith
denominator_positive Nvidia195mv = omega arith
