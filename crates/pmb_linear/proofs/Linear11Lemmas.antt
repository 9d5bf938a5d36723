-- The codes of LINEAR11: what their fields hold, which are canonical, and what lies between two of
-- one parity. For `exponent_of`, `mantissa`, `word`, `code_at` and the law of the format
-- (`obeys_laws`). A canonical code has the least exponent that holds its value; between two of one
-- parity the next mantissa at one of their exponents, or -1,024 or 1,023, is another code.
use Rattle.std.proofs.Common.{◌≡◌, ◌≢◌, ℕ, zero, suc, ◌+◌, ◌-◌, ◌*◌, ◌/◌, ◌%◌, ◌^◌, ◌<◌, ◌≤◌, ◌⊎◌, inl, inr, ℤ, pos}
use Rattle.std.proofs.Common.{negsuc, ◌+ℤ◌, ◌-ℤ◌, ◌*ℤ◌, ◌<ℤ◌, ◌≤ℤ◌, unsigned_abs, refl, sym, ap, ◌∙◌, subst, arith}
use Rattle.std.proofs.lemmas.Int.{ints, by_lt_z}
use Rattle.std.proofs.lemmas.Bool.{cases_lt, cases_eq}
use Rattle.std.proofs.lemmas.Nat.{pow_pos, div-mul-add, mod-mul-add}
use Rattle.std.proofs.Math.IntN.{zero-*ℤ, -ℤ-+ℤ_cancel}
use Rattle.pmb_format.specs.Coding.{IsWord}
use Rattle.pmb_format.specs.Words.{twos_complement}
use Rattle.pmb_linear.specs.Linear.{power, exponent, mantissa, linear11_numerator, IsCanonicalLinear11}
use Rattle.pmb_linear.specs.machine.Fields.{IsMantissa, Holds}
use Rattle.pmb_quantity.proofs.Scaling.{scale_lt, unscale_lt, unscale_eq}
use Rattle.pmb_format.proofs.Scaling.{power_splits, two_or_more, grows_up, grows_down}
use Rattle.pmb_format.proofs.Words.{complement_low, complement_high}

-- the exponent over -16
abbrev pub steps : ℕ → ℕ
steps code = unsigned_abs (exponent code +ℤ pos 16)

-- both fields are in range
-- 2,048: a mantissa has 11 bits, an exponent 5
field_11 : (f : ℕ) → f < 2048 → IsMantissa (twos_complement 11 f)
field_11 f fits =
    elim (cases_lt f 1024) [
      | inl low ↦ let is = complement_low 11 f low in (omega (arith, ints), omega (arith, ints))
      | inr high ↦ let is = complement_high 11 f high in (omega (arith, ints), omega (arith, ints))
    ]

pub field_5 : (f : ℕ) → f < 32 → (negsuc 15 ≤ℤ twos_complement 5 f) × (twos_complement 5 f ≤ℤ pos 15)
field_5 f fits =
    elim (cases_lt f 16) [
      | inl low ↦ let is = complement_low 5 f low in (omega (arith, ints), omega (arith, ints))
      | inr high ↦ let is = complement_high 5 f high in (omega (arith, ints), omega (arith, ints))
    ]

pub mantissa_fits : (code : ℕ) → IsMantissa (mantissa code)
mantissa_fits code = field_11 (code % 2048) (omega arith)

pub exponent_fits : (code : ℕ) → IsWord code → (negsuc 15 ≤ℤ exponent code) × (exponent code ≤ℤ pos 15)
exponent_fits code is_code = field_5 (code / 2048) (omega arith)

-- each code holds its fields
pub holds_itself : (code : ℕ) → IsWord code → Holds code (mantissa code) (steps code)
holds_itself code is_code =
    let fits = exponent_fits code is_code in
    record { is_code = is_code; mantissa_is = refl; exponent_is = omega (arith, ints, fits); value_is = refl }

pub steps_fit : (code : ℕ) → IsWord code → steps code ≤ 31
steps_fit code is_code = let fits = exponent_fits code is_code in omega (arith, ints, fits)

-- each number in range has a field
mantissa_field : (y : ℤ) → IsMantissa y → (f : ℕ) × (f < 2048) × (twos_complement 11 f ≡ y)
mantissa_field (pos n) fits = (n, omega (arith, ints, fits), complement_low 11 n (omega (arith, ints, fits)))
mantissa_field (negsuc n) fits =
    let is = complement_high 11 (2047 - n) (omega (arith, ints, fits)) in
    (2047 - n, omega (arith, ints, fits), omega (arith, ints, fits))

exponent_field : (b : ℕ) → b ≤ 31 → (f : ℕ) × (f < 32) × (twos_complement 5 f ≡ pos b -ℤ pos 16)
exponent_field b fits =
    elim (cases_lt b 16) [
      | inl low ↦ let is = complement_high 5 (b + 16) (omega arith) in (b + 16, omega arith, omega (arith, ints))
      | inr high ↦ let is = complement_low 5 (b - 16) (omega arith) in (b - 16, omega arith, omega (arith, ints))
    ]

mantissa_at : (index : ℕ) → index < 2048 → twos_complement 11 ((index + 1024) % 2048) ≡ negsuc 1023 +ℤ pos index
mantissa_at index fits =
    elim (cases_lt index 1024) [
      | inl low ↦ let is = complement_high 11 ((index + 1024) % 2048) (omega arith) in omega (arith, ints, is)
      | inr high ↦ let is = complement_low 11 ((index + 1024) % 2048) (omega arith) in omega (arith, ints, is)
    ]

exponent_at : (b : ℕ) → b ≤ 31 → twos_complement 5 ((b + 16) % 32) ≡ pos b -ℤ pos 16
exponent_at b fits =
    elim (cases_lt b 16) [
      | inl low ↦ let is = complement_high 5 ((b + 16) % 32) (omega arith) in omega (arith, ints, is)
      | inr high ↦ let is = complement_low 5 ((b + 16) % 32) (omega arith) in omega (arith, ints, is)
    ]

-- the code of two fields
pub holds_fields : (y : ℤ) (b high low : ℕ) → low < 2048 → high < 32 → twos_complement 11 low ≡ y
    → twos_complement 5 high ≡ pos b -ℤ pos 16 → Holds (high * 2048 + low) y b
holds_fields y b high low low_fits high_fits low_is high_is =
    let code = high * 2048 + low in
    let mantissa_is : mantissa code ≡ y = ap (twos_complement 11) (mod-mul-add high 2048 low low_fits) ∙ low_is in
    let exponent_is : exponent code ≡ pos b -ℤ pos 16 = ap (twos_complement 5) (div-mul-add high 2048 low low_fits)
    ∙ high_is in
    let power_is : power (exponent code) ≡ 2 ^ b = ap power exponent_is
    ∙ ap (λ z. 2 ^ unsigned_abs z) (-ℤ-+ℤ_cancel (pos b) (pos 16)) in
    record {
      is_code = omega (arith, low_fits, high_fits);
      mantissa_is = mantissa_is;
      exponent_is = exponent_is;
      value_is = ap (λ z. z *ℤ pos (power (exponent code))) mantissa_is ∙ ap (λ p. y *ℤ pos p) power_is;
    }

-- the code of a mantissa and an exponent
pub code_of : (y : ℤ) (b : ℕ) → IsMantissa y → b ≤ 31 → (code : ℕ) × Holds code y b
code_of y b y_fits b_fits =
    let low = mantissa_field y y_fits in
    let high = exponent_field b b_fits in
    (high.0 * 2048 + low.0, holds_fields y b high.0 low.0 low.1 high.1 low.2 high.2)

-- .. and of the mantissa index - 1024
pub holds_word : (index b : ℕ) → index < 2048 → b ≤ 31
    → Holds ((b + 16) % 32 * 2048 + (index + 1024) % 2048) (negsuc 1023 +ℤ pos index) b
holds_word index b index_fits b_fits =
    holds_fields (negsuc 1023 +ℤ pos index) b ((b + 16) % 32) ((index + 1024) % 2048) (omega arith) (omega arith)
    (mantissa_at index index_fits) (exponent_at b b_fits)

-- the value is 0 only where the mantissa is
zero_mantissa : (y : ℤ) (b : ℕ) → y *ℤ pos (2 ^ b) ≡ pos 0 → y ≡ pos 0
zero_mantissa y b same = unscale_eq y (pos 0) (2 ^ b) (pow_pos b) (same ∙ sym (zero-*ℤ (pos (2 ^ b))))

-- half a value has twice the mantissa
half_power : (y : ℤ) (b : ℕ) → 0 < b → y *ℤ pos (2 ^ b) ≡ (y *ℤ pos 2) *ℤ pos (2 ^ (b - 1))
half_power y b positive =
    let one : b - (b - 1) ≡ 1 = omega arith in
    power_splits y (b - 1) b (omega arith) ∙ ap (λ k. (y *ℤ pos (2 ^ k)) *ℤ pos (2 ^ (b - 1))) one

-- the exponent is the least that holds the value
abbrev pub IsLeast : ℤ → ℕ → Type 0
IsLeast y b = (b ≡ 0) ⊎ ((y <ℤ negsuc 511) ⊎ (pos 511 <ℤ y))

-- or the doubled mantissa is in range too
least_or_not : {P : Type 0} (y : ℤ) (b : ℕ) → (IsLeast y b → P) → (0 < b → negsuc 511 ≤ℤ y → y ≤ℤ pos 511 → P) → P
least_or_not y b least more =
    elim (cases_eq b 0) [
      | inl none ↦ least (inl none)
      | inr some ↦
          by_lt_z y (negsuc 511) (λ h. least (inr (inl h))) (λ low.
          by_lt_z (pos 511) y (λ h. least (inr (inr h))) (λ high. more (omega arith) low high))
    ]

pub zero_value : linear11_numerator 0 ≡ pos 0
zero_value = ap (λ z. z *ℤ pos (power (exponent 0))) (complement_low 11 0 (omega arith))
    ∙ zero-*ℤ (pos (power (exponent 0)))

pub zero_is_canonical : IsCanonicalLinear11 0
zero_is_canonical = record { zero = λ _. refl; least_exponent = λ other. absurd (other zero_value) }

-- a canonical code but 0 has the least exponent
pub canonical_is_least : (k : ℕ) (y : ℤ) (b : ℕ) → Holds k y b → b ≤ 31 → IsCanonicalLinear11 k → k ≢ 0
    → (y ≢ pos 0) × IsLeast y b
canonical_is_least k y b holds b_fits canonical some =
    let value_some : linear11_numerator k ≢ pos 0 = λ none. some (canonical.zero none) in
    let y_some : y ≢ pos 0 = λ none. value_some
    (holds.value_is ∙ ap (λ z. z *ℤ pos (2 ^ b)) none ∙ zero-*ℤ (pos (2 ^ b))) in (
      y_some,
      least_or_not y b (λ h. h) (λ positive low high.
          let other = code_of (y *ℤ pos 2) (b - 1) (omega (arith, ints), omega (arith, ints)) (omega arith) in
          let least = canonical.least_exponent value_some other.0 other.1.is_code
          (other.1.value_is ∙ sym (half_power y b positive) ∙ sym holds.value_is) in
          absurd (omega (arith, ints, least, other.1.exponent_is, holds.exponent_is))),
    )

-- a doubled mantissa is out of range
out_of_range : (y z : ℤ) (s : ℕ) → 2 ≤ s → IsMantissa z → z ≡ y *ℤ pos s → (y <ℤ negsuc 511) ⊎ (pos 511 <ℤ y) → ⊥
out_of_range y z s twice fits same (inl low) = let grown = grows_down 512 y s twice (omega (arith, ints)) in
    omega (arith, ints, fits)
out_of_range y z s twice fits same (inr high) = let grown = grows_up 512 y s twice (omega (arith, ints)) in
    omega (arith, ints, fits)

not_smaller : (y z : ℤ) (b d : ℕ) → d < b → IsMantissa z → z *ℤ pos (2 ^ d) ≡ y *ℤ pos (2 ^ b) → IsLeast y b → ⊥
not_smaller y z b d less fits same (inl none) = omega arith
not_smaller y z b d less fits same (inr large) =
    let taken : z ≡ y *ℤ pos (2 ^ (b - d)) = unscale_eq z (y *ℤ pos (2 ^ (b - d))) (2 ^ d) (pow_pos d)
    (same ∙ power_splits y d b (omega arith)) in
    out_of_range y z (2 ^ (b - d)) (two_or_more (b - d) (omega arith)) fits taken large

-- and a code with the least exponent is canonical
pub least_is_canonical : (k : ℕ) (y : ℤ) (b : ℕ) → Holds k y b → y ≢ pos 0 → IsLeast y b → IsCanonicalLinear11 k
least_is_canonical k y b holds some least = record {
  zero = λ none. absurd (some (zero_mantissa y b (sym holds.value_is ∙ none)));
  least_exponent = λ _ j j_code same.
      let other = holds_itself j j_code in
      elim (cases_lt (steps j) b) [
        | inl less ↦ absurd (not_smaller y (mantissa j) b (steps j) less (mantissa_fits j)
            (same ∙ holds.value_is) least)
        | inr more ↦ omega (arith, ints, other.exponent_is, holds.exponent_is)
      ];
}

-- each value has a canonical code
HasCanonical : ℤ → ℕ → Type 0
HasCanonical y b = (c : ℕ) × IsWord c × IsCanonicalLinear11 c × (linear11_numerator c ≡ y *ℤ pos (2 ^ b))

by_code : (y : ℤ) (b : ℕ) → b ≤ 31 → IsMantissa y → y ≢ pos 0 → IsLeast y b → HasCanonical y b
unfolding HasCanonical
by_code y b b_fits y_fits some least =
    let code = code_of y b y_fits b_fits in
    (code.0, code.1.is_code, least_is_canonical code.0 y b code.1 some least, code.1.value_is)

normal_code : (b : ℕ) (y : ℤ) → b ≤ 31 → IsMantissa y → y ≢ pos 0 → HasCanonical y b
unfolding HasCanonical
normal_code zero y b_fits y_fits some = by_code y 0 b_fits y_fits some (inl refl)
normal_code (suc b) y b_fits y_fits some =
    least_or_not y (suc b) (by_code y (suc b) b_fits y_fits some) (λ positive low high.
    let smaller = normal_code b (y *ℤ pos 2) (omega arith) (omega (arith, ints), omega (arith, ints))
    (λ none. some (omega (arith, ints))) in
    let halved : y *ℤ pos (2 ^ suc b) ≡ (y *ℤ pos 2) *ℤ pos (2 ^ b) = half_power y (suc b) positive
    ∙ ap (λ k. (y *ℤ pos 2) *ℤ pos (2 ^ k)) (omega arith) in
    (smaller.0, smaller.1, smaller.2, smaller.3 ∙ sym halved))

pub canonical_code : (k : ℕ) → IsWord k → (c : ℕ) × IsWord c × IsCanonicalLinear11 c
    × (linear11_numerator c ≡ linear11_numerator k)
unfolding HasCanonical
canonical_code k code =
    let itself = holds_itself k code in
    let given : mantissa k ≢ pos 0 → (c : ℕ) × IsWord c × IsCanonicalLinear11 c
    × (linear11_numerator c ≡ linear11_numerator k) = normal_code (steps k) (mantissa k) (steps_fit k code)
    (mantissa_fits k) in
    by_lt_z (mantissa k) (pos 0) (λ less. given (λ none. absurd (omega (arith, ints)))) (λ at_least.
    by_lt_z (pos 0) (mantissa k) (λ more. given (λ none. absurd (omega (arith, ints)))) (λ at_most.
    let none : mantissa k ≡ pos 0 = omega (arith, ints) in (
      0,
      omega arith,
      zero_is_canonical,
      zero_value
          ∙ sym (itself.value_is ∙ ap (λ z. z *ℤ pos (2 ^ steps k)) none ∙ zero-*ℤ (pos (2 ^ steps k))),
    )))

-- the mantissa of a code has its parity
mantissa_parity : (c : ℕ) → (g : ℕ) × (mantissa c +ℤ pos 2048 ≡ pos g) × (g % 2 ≡ c % 2)
mantissa_parity c =
    elim (cases_lt (c % 2048) 1024) [
      | inl low ↦ let is = complement_low 11 (c % 2048) low in (c % 2048 + 2048, omega (arith, ints), omega arith)
      | inr high ↦ let is = complement_high 11 (c % 2048) high in (c % 2048, omega (arith, ints), omega arith)
    ]

-- a value as a mantissa, which is g - 2048, at its least exponent
record IsForm (v y : ℤ) (b g : ℕ) : Type 0 where
  -- the mantissa is in range,
  fits : IsMantissa y
  steps_fit : b ≤ 31
  -- g is the mantissa and 2,048, so that it has the code's parity,
  offset : y +ℤ pos 2048 ≡ pos g
  -- and the exponent is the least that holds the value
  least : IsLeast y b
  value_is : v ≡ y *ℤ pos (2 ^ b)

zero_form : (v : ℤ) → v ≡ pos 0 → IsForm v (pos 0) 0 2048
zero_form v none = record {
  fits = (omega (arith, ints), omega (arith, ints));
  steps_fit = omega arith;
  offset = omega (arith, ints);
  least = inl (omega arith);
  value_is = none ∙ sym (zero-*ℤ (pos (2 ^ 0)));
}

-- the form of a canonical code has its parity
form_of : (c : ℕ) → IsWord c → IsCanonicalLinear11 c → (y : ℤ) × (b : ℕ) × (g : ℕ) × IsForm (linear11_numerator c) y b g
    × (g % 2 ≡ c % 2)
form_of c code canonical =
    elim (cases_eq c 0) [
      -- the code 0000h: mantissa 0 at the least exponent
      | inl none ↦ (
        pos 0,
        0,
        2048,
        zero_form (linear11_numerator c) (ap linear11_numerator none ∙ zero_value),
        omega arith,
      )
      -- any other: its own fields, as it is canonical
      | inr some ↦
          let itself = holds_itself c code in
          let least = canonical_is_least c (mantissa c) (steps c) itself (steps_fit c code) canonical some in
          let parity = mantissa_parity c in (
            mantissa c,
            steps c,
            parity.0,
            record {
              fits = mantissa_fits c;
              steps_fit = steps_fit c code;
              offset = parity.1;
              least =
                  least.1;
              value_is = itself.value_is;
            },
            parity.2,
          )
    ]

-- a code strictly between two values
abbrev pub HasMiddle : ℤ → ℤ → Type 0
HasMiddle v w = (j : ℕ) × IsWord j × (v <ℤ linear11_numerator j) × (linear11_numerator j <ℤ w)

-- one code, where its mantissa is between both at its own exponent
middle_code : (v w m : ℤ) (e : ℕ) → IsMantissa m → e ≤ 31 → v <ℤ (m *ℤ pos (2 ^ e)) → (m *ℤ pos (2 ^ e)) <ℤ w
    → HasMiddle v w
middle_code v w m e m_fits e_fits low high =
    let code = code_of m e m_fits e_fits in
    (code.0, code.1.is_code, omega (arith, ints, code.1.value_is, low), omega (arith, ints, code.1.value_is, high))

-- at one exponent the next mantissa is between
middle_same : (v w y z : ℤ) (b g h : ℕ) → IsForm v y b g → IsForm w z b h → g % 2 ≡ h % 2 → v <ℤ w → HasMiddle v w
middle_same v w y z b g h low high parity less =
    let below : y <ℤ z = unscale_lt y z (2 ^ b) (pow_pos b) (omega (arith, ints, low.value_is, high.value_is)) in
    let after = scale_lt y (y +ℤ pos 1) (2 ^ b) (pow_pos b) (omega (arith, ints)) in
    let before = scale_lt (y +ℤ pos 1) z (2 ^ b) (pow_pos b) (omega (arith, ints, low.offset, high.offset)) in
    middle_code v w (y +ℤ pos 1) b (omega (arith, ints, low.fits), omega (arith, ints, high.fits)) low.steps_fit
    (omega (arith, ints, low.value_is)) (omega (arith, ints, high.value_is))

-- the mantissa of a greater exponent is large
large_mantissa : (y : ℤ) (b d : ℕ) → d < b → IsLeast y b → (y <ℤ negsuc 511) ⊎ (pos 511 <ℤ y)
large_mantissa y b d greater (inl none) = absurd (omega arith)
large_mantissa y b d greater (inr large) = large

-- two values with mantissas of one parity
module _ (v w y z : ℤ) (b d g h : ℕ) (low : IsForm v y b g) (high : IsForm w z d h) (parity : g % 2 ≡ h % 2) where
  -- below a greater exponent, its mantissa before a large one is between, if that is still large
  middle_previous : b < d → pos 512 <ℤ z → HasMiddle v w
  middle_previous order large =
      -- the mantissa before, at the smaller exponent, is 512 times 2 or more,
      let split = power_splits (z -ℤ pos 1) b d (omega arith) in
      let grown = grows_up 512 (z -ℤ pos 1) (2 ^ (d - b)) (two_or_more (d - b) (omega arith)) (omega (arith, ints)) in
      -- so beyond all that the smaller exponent holds,
      let after = scale_lt y ((z -ℤ pos 1) *ℤ pos (2 ^ (d - b))) (2 ^ b) (pow_pos b) (omega (arith, ints, low.fits)) in
      -- and it is below its successor
      let before = scale_lt (z -ℤ pos 1) z (2 ^ d) (pow_pos d) (omega (arith, ints)) in
      middle_code v w (z -ℤ pos 1) d (omega (arith, ints), omega (arith, ints, high.fits)) high.steps_fit
      (omega (arith, ints, low.value_is)) (omega (arith, ints, high.value_is))

  -- .. or 1023 at the smaller one
  middle_above : b < d → pos 511 <ℤ z → HasMiddle v w
  middle_above order large =
      let split = power_splits z b d (omega arith) in
      let grown = grows_up 512 z (2 ^ (d - b)) (two_or_more (d - b) (omega arith)) (omega (arith, ints)) in
      by_lt_z y (pos 1023)
      (λ less.
      let after = scale_lt y (pos 1023) (2 ^ b) (pow_pos b) less in
      let before = scale_lt (pos 1023) (z *ℤ pos (2 ^ (d - b))) (2 ^ b) (pow_pos b) (omega (arith, ints)) in
      middle_code v w (pos 1023) b (omega (arith, ints), omega (arith, ints)) low.steps_fit
      (omega (arith, ints, low.value_is)) (omega (arith, ints, high.value_is)))
      (λ at_least. middle_previous order (omega (arith, ints, low.fits, low.offset, high.offset, at_least)))

  -- above a greater exponent, its mantissa after a large negative one is between, if that is still
  -- large
  middle_next : d < b → y <ℤ negsuc 512 → HasMiddle v w
  middle_next order large =
      let split = power_splits (y +ℤ pos 1) d b (omega arith) in
      let grown = grows_down 512 (y +ℤ pos 1) (2 ^ (b - d)) (two_or_more (b - d) (omega arith)) (omega (arith, ints)) in
      let after = scale_lt y (y +ℤ pos 1) (2 ^ b) (pow_pos b) (omega (arith, ints)) in
      let before = scale_lt ((y +ℤ pos 1) *ℤ pos (2 ^ (b - d))) z (2 ^ d) (pow_pos d)
      (omega (arith, ints, high.fits)) in
      middle_code v w (y +ℤ pos 1) b (omega (arith, ints, low.fits), omega (arith, ints)) low.steps_fit
      (omega (arith, ints, low.value_is)) (omega (arith, ints, high.value_is))

  -- .. or -1024 at the smaller one
  middle_below : d < b → y <ℤ negsuc 511 → HasMiddle v w
  middle_below order large =
      let split = power_splits y d b (omega arith) in
      let grown = grows_down 512 y (2 ^ (b - d)) (two_or_more (b - d) (omega arith)) (omega (arith, ints)) in
      by_lt_z (negsuc 1023) z
      (λ less.
      let after = scale_lt (y *ℤ pos (2 ^ (b - d))) (negsuc 1023) (2 ^ d) (pow_pos d) (omega (arith, ints)) in
      let before = scale_lt (negsuc 1023) z (2 ^ d) (pow_pos d) less in
      middle_code v w (negsuc 1023) d (omega (arith, ints), omega (arith, ints)) high.steps_fit
      (omega (arith, ints, low.value_is)) (omega (arith, ints, high.value_is)))
      (λ at_most. middle_next order (omega (arith, ints, high.fits, low.offset, high.offset, at_most)))

  -- no value is below a large negative one of a greater exponent
  not_above : b < d → v <ℤ w → z <ℤ negsuc 511 → ⊥
  not_above order less large =
      let split = power_splits z b d (omega arith) in
      let at_b : y <ℤ (z *ℤ pos (2 ^ (d - b))) = unscale_lt y (z *ℤ pos (2 ^ (d - b))) (2 ^ b) (pow_pos b)
      (omega (arith, ints, low.value_is, high.value_is)) in
      let grown = grows_down 512 z (2 ^ (d - b)) (two_or_more (d - b) (omega arith)) (omega (arith, ints)) in
      omega (arith, ints, low.fits)

  -- .. nor above a large positive one
  not_below : d < b → v <ℤ w → pos 511 <ℤ y → ⊥
  not_below order less large =
      let split = power_splits y d b (omega arith) in
      let at_d : (y *ℤ pos (2 ^ (b - d))) <ℤ z = unscale_lt (y *ℤ pos (2 ^ (b - d))) z (2 ^ d) (pow_pos d)
      (omega (arith, ints, low.value_is, high.value_is)) in
      let grown = grows_up 512 y (2 ^ (b - d)) (two_or_more (b - d) (omega arith)) (omega (arith, ints)) in
      omega (arith, ints, high.fits)

  -- at any two exponents
  middle_of_forms : v <ℤ w → HasMiddle v w
  middle_of_forms less =
      elim (cases_lt b d) [
        | inl smaller ↦
            elim (large_mantissa z d b smaller high.least) [
              | inl negative ↦ absurd (not_above smaller less negative)
              | inr positive ↦ middle_above smaller positive
            ]
        | inr others ↦
            elim (cases_lt d b) [
              | inl greater ↦
                  elim (large_mantissa y b d greater low.least) [
                    | inl negative ↦ middle_below greater negative
                    | inr positive ↦ absurd (not_below greater less positive)
                  ]
              | inr least ↦
                  let same : d ≡ b = omega arith in
                  let P : ℕ → Type 0 = λ e. IsForm w z e h in
                  middle_same v w y z b g h low (subst P same high) parity less
            ]
      ]

-- between two canonical codes of one parity lies another
pub between : (c k : ℕ) → IsWord c → IsWord k → IsCanonicalLinear11 c → IsCanonicalLinear11 k → c % 2 ≡ k % 2
    → linear11_numerator c <ℤ linear11_numerator k → HasMiddle (linear11_numerator c) (linear11_numerator k)
between c k c_code k_code c_canonical k_canonical parity less =
    let low = form_of c c_code c_canonical in
    let high = form_of k k_code k_canonical in
    middle_of_forms (linear11_numerator c) (linear11_numerator k) low.0 high.0 low.1 high.1 low.2 high.2 low.3 high.3
    (low.4 ∙ parity ∙ sym high.4) less
