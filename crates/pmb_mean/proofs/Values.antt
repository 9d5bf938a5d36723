-- The value of a word is a fraction over the denominator of its kind, and its numerator there is
-- small: for what makes a `Number`. A mantissa is at most 2^16 and a power of two at most 2^31,
-- over 2^16, so over 2^24 they are at most 2^55; in half precision and in DIRECT the numerator
-- stands over the denominator itself; a VID table's, at most 2^17, is taken at most 8 times.
use Rattle.std.proofs.Common.{◌≡◌, ℕ, ◌*◌, ◌/◌, ◌^◌, ◌<◌, ◌≤◌, inl, inr, ℤ, pos, negsuc, ◌+ℤ◌, ◌*ℤ◌, ◌≤ℤ◌}
use Rattle.std.proofs.Common.{unsigned_abs, Bool, Option, Some, None, Result, Ok, Err}
use Rattle.std.proofs.Common.{refl, sym, ap, ◌∙◌, subst, arith}
use Rattle.std.specs.Int.{◌∣◌}
use Rattle.std.proofs.lemmas.Bool.{cases_lt}
use Rattle.std.proofs.lemmas.Int.{ints, unsigned_abs-mul}
use Rattle.std.proofs.lemmas.Nat.{mul-le}
use Rattle.std.proofs.Math.Nat.{div-mul_cancel, dvd-mul_right, mul_assoc, mul_comm, mul-div_cancel}
use Rattle.std.proofs.Math.Nat.{mul-lt-mul_of_pos_right}
use Rattle.std.proofs.Math.Nat.{pow-le-pow_right}
use Rattle.pmb_quantity.specs.Fraction.{Fraction, gcd, lowest_terms}
use Rattle.pmb_quantity.proofs.FractionLemmas.{IsGcd-gcd, quotient_positive}
use Rattle.pmb_quantity.proofs.LawLemmas.{int_div-abs}
use Rattle.pmb_coefficients.specs.Coefficients.{Coefficients}
use Rattle.pmb_format.specs.Direct.{direct, positive_part}
use Rattle.pmb_format.specs.Words.{twos_complement}
use Rattle.pmb_format.proofs.Words.{complement_low, complement_high}
use Rattle.pmb_linear.specs.Linear.{IsExponent, mantissa}
use Rattle.pmb_linear.proofs.Linear11Lemmas.{mantissa_fits, steps, steps_fit}
use Rattle.pmb_half.specs.Half.{half_numerator}
use Rattle.pmb_vid.specs.Vid.{numerator}
use Rattle.pmb_vid.specs.declared.table.VidTable.{VidTable}
use Rattle.pmb_vid.specs.declared.table.VidTable.TheVariants.{Vr11, Vr12, Vr13, Imvp9, Amd625mv, Nvidia195mv}
use Rattle.pmb_value.specs.WordFault.{value_unless}
use Rattle.pmb_value.specs.declared.number_format.NumberFormat.TheVariants.{Linear11, Word, Half, Vid}
use Rattle.pmb_value.specs.declared.number_format.WordFault.{WordFault}
use Rattle.pmb_value.specs.declared.vout.VoutFormat.TheVariants.{Unsigned, Signed, Direct}
use Rattle.pmb_mean.specs.declared.denominators.Denominators.{Denominators}
use Rattle.pmb_mean.specs.declared.denominators.Denominators.TheVariants.{Dyadic, Over, Vids}
use Rattle.pmb_mean.specs.Numbers.{FitsKind, denominator}
use Rattle.pmb_mean.specs.machine.Formats.{coded_number}

-- ---- a fraction in lowest terms, over a multiple of its denominator
module _ (n : ℤ) (d k : ℕ) (positive : 0 < d) where
  abbrev divisor : ℕ
  divisor = gcd (unsigned_abs n) d

  abbrev low : ℕ
  low = d / divisor

  divisor_divides : divisor ∣ d
  divisor_divides = (IsGcd-gcd (unsigned_abs n) d).1

  low_positive : 0 < low
  low_positive = quotient_positive d divisor positive divisor_divides

  -- the multiple
  whole : divisor * k * low ≡ d * k
  whole =
      ap (λ x. x * low) (mul_comm divisor k) ∙ mul_assoc k divisor low ∙ ap (λ x. k * x) (mul_comm divisor low)
      ∙ ap (λ x. k * x) (div-mul_cancel divisor divisor_divides) ∙ mul_comm k d

  times : d * k / low ≡ divisor * k
  times = ap (λ x. x / low) (sym whole) ∙ mul-div_cancel (divisor * k) low_positive

  low_divides : low ∣ d * k
  low_divides =
      let P : ℕ → Type 0 = λ x. low ∣ x in
      subst P (mul_comm low (divisor * k) ∙ whole) (dvd-mul_right low (divisor * k))

  -- the numerator is that of n over d, as many times
  numerator_abs : unsigned_abs ((lowest_terms n d).numerator *ℤ pos (d * k / low)) ≡ unsigned_abs n * k
  numerator_abs =
      unsigned_abs-mul (lowest_terms n d).numerator (pos (d * k / low))
      ∙ ap (λ x. x * (d * k / low)) (int_div-abs n divisor) ∙ ap (λ x. unsigned_abs n / divisor * x) times
      ∙ sym (mul_assoc (unsigned_abs n / divisor) divisor k)
      ∙ ap (λ x. x * k) (div-mul_cancel divisor (IsGcd-gcd (unsigned_abs n) d).0)

  pub lowest_fits_kind : (over : Denominators) (assumed : Bool) → 0 < k → denominator over ≡ d * k
      → unsigned_abs n * k < 2 ^ 62
      → FitsKind (record { value = lowest_terms n d; over = over; assumed = assumed })
  lowest_fits_kind over assumed some is small =
      let P : ℕ → Type 0 = λ x. low ∣ x in
      let same = ap (λ x. unsigned_abs ((lowest_terms n d).numerator *ℤ pos (x / low))) is in
      record {
        some = omega (arith, is, mul-lt-mul_of_pos_right {m = 0} {n = d} positive some);
        positive = low_positive;
        divides = subst P (sym is) low_divides;
        small = omega (arith, same, numerator_abs, small);
      }

-- ---- the linear formats
linear_fits_kind : (y : ℤ) (power : ℕ) (assumed : Bool) → unsigned_abs y ≤ 2 ^ 16 → power ≤ 31
    → FitsKind (record {
      value = lowest_terms (y *ℤ pos (2 ^ power)) (2 ^ 16);
      over = Dyadic;
      assumed = assumed;
    })
linear_fits_kind y power assumed few low =
    let powers : 2 ^ power ≤ 2 ^ 31 = pow-le-pow_right {n = 2} (omega arith) {i = power} {j = 31} low in
    let product : unsigned_abs y * 2 ^ power ≤ 2 ^ 16 * 2 ^ 31 =
    mul-le (unsigned_abs y) (2 ^ power) (2 ^ 16) (2 ^ 31) few powers in
    let absolute = unsigned_abs-mul y (pos (2 ^ power)) in
    lowest_fits_kind (y *ℤ pos (2 ^ power)) (2 ^ 16) (2 ^ 8) (omega arith) Dyadic assumed (omega arith) refl
    (omega (arith, absolute, product))

pub linear11_fits_kind : (word : ℕ) (assumed : Bool) → word < 2 ^ 16 → FitsKind (coded_number Linear11 word assumed)
linear11_fits_kind word assumed is_word =
    let fits = mantissa_fits word in
    linear_fits_kind (mantissa word) (steps word) assumed (omega (arith, ints, fits)) (steps_fit word is_word)

exponent_small : (e : ℤ) → IsExponent e → unsigned_abs (e +ℤ pos 16) ≤ 31
exponent_small e fits = omega (arith, ints, fits)

signed_small : (word : ℕ) → word < 2 ^ 16 → unsigned_abs (twos_complement 16 word) ≤ 2 ^ 16
signed_small word is_word =
    elim (cases_lt word (2 ^ 15)) [
      | inl low ↦ let is = complement_low 16 word low in omega (arith, ints, is)
      | inr high ↦ let is = complement_high 16 word high in omega (arith, ints, is)
    ]

pub unsigned_fits_kind : (e : ℤ) (word : ℕ) (assumed : Bool) → IsExponent e → word < 2 ^ 16
    → FitsKind (coded_number (Word (Unsigned e)) word assumed)
unsigned_fits_kind e word assumed fits is_word =
    linear_fits_kind (pos word) (unsigned_abs (e +ℤ pos 16)) assumed (omega arith) (exponent_small e fits)

pub signed_fits_kind : (e : ℤ) (word : ℕ) (assumed : Bool) → IsExponent e → word < 2 ^ 16
    → FitsKind (coded_number (Word (Signed e)) word assumed)
signed_fits_kind e word assumed fits is_word =
    linear_fits_kind (twos_complement 16 word) (unsigned_abs (e +ℤ pos 16)) assumed (signed_small word is_word)
    (exponent_small e fits)

-- ---- half precision
pub half_fits_kind : (word : ℕ) (assumed : Bool) → unsigned_abs (half_numerator word) < 2 ^ 62
    → FitsKind (coded_number Half word assumed)
half_fits_kind word assumed small =
    lowest_fits_kind (half_numerator word) (2 ^ 24) 1 (omega arith) Dyadic assumed (omega arith) refl
    (omega (arith, small))

-- ---- VID tables, over 160, 200 or 100
pub vid_fits_kind : (table : VidTable) (word : ℕ) (assumed : Bool) → word < 2 ^ 16
    → FitsKind (coded_number (Vid table) word assumed)
vid_fits_kind Vr11 word assumed is_word =
    lowest_fits_kind (numerator Vr11 word) 160 5 (omega arith) Vids assumed (omega arith) refl (omega (arith, ints))
vid_fits_kind Vr12 word assumed is_word =
    lowest_fits_kind (numerator Vr12 word) 200 4 (omega arith) Vids assumed (omega arith) refl (omega (arith, ints))
vid_fits_kind Vr13 word assumed is_word =
    lowest_fits_kind (numerator Vr13 word) 100 8 (omega arith) Vids assumed (omega arith) refl (omega (arith, ints))
vid_fits_kind Imvp9 word assumed is_word =
    lowest_fits_kind (numerator Imvp9 word) 100 8 (omega arith) Vids assumed (omega arith) refl (omega (arith, ints))
vid_fits_kind Amd625mv word assumed is_word =
    lowest_fits_kind (numerator Amd625mv word) 160 5 (omega arith) Vids assumed (omega arith) refl (omega (arith, ints))
vid_fits_kind Nvidia195mv word assumed is_word =
    lowest_fits_kind (numerator Nvidia195mv word) 200 4 (omega arith) Vids assumed (omega arith) refl
    (omega (arith, ints))

-- ---- DIRECT
pub direct_fits_kind : (d : Coefficients) (word : ℕ) (assumed : Bool) → 0 < (direct d).denominator
    → unsigned_abs ((direct d).numerator word) < 2 ^ 62 → FitsKind (coded_number (Word (Direct d)) word assumed)
direct_fits_kind d word assumed positive small =
    lowest_fits_kind ((direct d).numerator word) (direct d).denominator 1 positive (Over d) assumed (omega arith)
    (omega arith) (omega (arith, small))

-- ---- a word that has a value has the one that the formula gives
value_or : Fraction → Result Fraction WordFault → Fraction
value_or other (Ok value) = value
value_or other (Err fault) = other

pub value_is : (fault : Option WordFault) (value result : Fraction) → value_unless fault value ≡ Ok result
    → value ≡ result
unfolding value_or
value_is None value result is = ap (value_or value) is
value_is (Some fault) value result is = ap (value_or value) is

-- the denominator: a slope of 16 bits, and ten to at most 9
scale_small : (r : ℤ) → r ≤ℤ pos 9 → positive_part r ≤ 9
scale_small (pos k) small = omega (arith, ints)
scale_small (negsuc k) small = omega arith

pub denominator_small : (m r : ℤ) → unsigned_abs m ≤ 2 ^ 15 → r ≤ℤ pos 9
    → unsigned_abs m * 10 ^ positive_part r < 2 ^ 46
denominator_small m r few small =
    let power : 10 ^ positive_part r ≤ 10 ^ 9 =
    pow-le-pow_right {n = 10} (omega arith) {i = positive_part r} {j = 9} (scale_small r small) in
    let product : unsigned_abs m * 10 ^ positive_part r ≤ 2 ^ 15 * 10 ^ 9 =
    mul-le (unsigned_abs m) (10 ^ positive_part r) (2 ^ 15) (10 ^ 9) few power in
    omega (arith, product)
