-- The value of each code of each format is a quantity: its numerator and its denominator fit, in
-- lowest terms. For the law `objects_are_json`, by DataMembers. The bounds are those of each
-- format's fields (5, 10, 11 or 16 bits, and a power of ten up to 9), and lowest terms are no larger.
use Rattle.std.proofs.Common.{◌≡◌, ◌≢◌, ℕ, zero, suc, ◌+◌, ◌-◌, ◌*◌, ◌/◌, ◌%◌, ◌^◌, ◌<◌, ◌≤◌, inl, inr, ℤ, pos, negsuc}
use Rattle.std.proofs.Common.{neg_ℤ, ◌+ℤ◌, ◌-ℤ◌, ◌*ℤ◌, ◌≤ℤ◌, Bool, true, false, unsigned_abs, refl, sym, ap, ◌∙◌, arith}
use Rattle.std.proofs.Common.{◌==◌}
use Rattle.std.proofs.lemmas.Bool.{cases_lt, cond_above, cond_below}
use Rattle.std.proofs.lemmas.Int.{ints, unsigned_abs-mul}
use Rattle.std.proofs.lemmas.Nat.{mul-le}
use Rattle.std.proofs.Math.Nat.{div-le_self, le_of_mul-le-mul_right, one-le-pow, pow-le-pow_right}
use Rattle.pmb_coefficients.specs.Coefficients.{Coefficients}
use Rattle.pmb_format.specs.Coding.{value_of}
use Rattle.pmb_format.specs.Direct.{direct, direct_word, positive_part, sign_of}
use Rattle.pmb_format.specs.Words.{twos_complement}
use Rattle.pmb_half.specs.Half.{exponent_field, fraction, half, half_numerator, is_negative, magnitude}
use Rattle.pmb_coefficients.specs.Exponent.{IsExponent}
use Rattle.pmb_vid.specs.Vid.{denominator, numerator, vid}
use Rattle.pmb_vid.specs.declared.table.VidTable.{VidTable}
use Rattle.pmb_vid.specs.declared.table.VidTable.TheVariants.{Vr11, Vr12, Vr13, Imvp9, Amd625mv, Nvidia195mv}
use Rattle.pmb_linear.specs.Linear.{exponent, linear11, linear11_numerator, mantissa, power, slinear16, ulinear16}
use Rattle.pmb_quantity.specs.Fraction.{Fraction, IsQuantity, gcd, lowest_terms}
use Rattle.pmb_quantity.specs.Laws.{AreLowestTerms}
use Rattle.pmb_json_objects.specs.Laws.{AreOfWords}
use Rattle.pmb_json_objects.proofs.Fine.{of_either}

-- that lowest terms are the same fraction
abbrev pub LowestTermsAre : Type 0
LowestTermsAre = (n : ℤ) (d : ℕ) → 0 < d → AreLowestTerms n d

-- ---- lowest terms are no larger

no_larger : (n m : ℤ) (d e : ℕ) → 0 < d → e ≤ d → m *ℤ pos d ≡ pos e *ℤ n → unsigned_abs m ≤ unsigned_abs n
no_larger n m d e some less same =
    let left : unsigned_abs m * d ≡ unsigned_abs (m *ℤ pos d) = sym (unsigned_abs-mul m (pos d)) in
    let right : unsigned_abs (pos e *ℤ n) ≡ e * unsigned_abs n = unsigned_abs-mul (pos e) n in
    let equal : unsigned_abs m * d ≡ e * unsigned_abs n = left ∙ ap unsigned_abs same ∙ right in
    let bound : e * unsigned_abs n ≤ d * unsigned_abs n = mul-le e (unsigned_abs n) d (unsigned_abs n) less
    (omega arith) in
    let turned : d * unsigned_abs n ≡ unsigned_abs n * d = omega arith in
    le_of_mul-le-mul_right {m = unsigned_abs m} {n = unsigned_abs n} {k = d} (omega (arith, equal, bound, turned)) some

module _ (lowest : LowestTermsAre) where
  of_small : (n : ℤ) (d : ℕ) → unsigned_abs n < 2 ^ 62 → 0 < d → d < 2 ^ 62 → IsQuantity (lowest_terms n d)
  of_small n d few some small =
      let terms = lowest n d some in
      let q : Fraction = lowest_terms n d in
      let less : q.denominator ≤ d = div-le_self d (gcd (unsigned_abs n) d) in
      let least : unsigned_abs q.numerator ≤ unsigned_abs n =
      no_larger n q.numerator d q.denominator some less terms.same_value in
      record {
        numerator_fits = omega (arith, least, few);
        denominator_fits = omega (arith, less, small);
        positive =
            terms.positive;
        lowest = terms.lowest;
      }

-- ---- fields

low_field : (bits field : ℕ) → field < 2 ^ (bits - 1) → twos_complement bits field ≡ pos field
unfolding twos_complement
low_field bits field low = sym (cond_below field (2 ^ (bits - 1)) (pos field) (pos field -ℤ pos (2 ^ bits)) low)

high_field : (bits field : ℕ) → 2 ^ (bits - 1) ≤ field → twos_complement bits field ≡ pos field -ℤ pos (2 ^ bits)
unfolding twos_complement
high_field bits field high = sym (cond_above field (2 ^ (bits - 1)) (pos field) (pos field -ℤ pos (2 ^ bits))
    (pos field -ℤ pos (2 ^ bits)) high refl)

pub five_bits : (field : ℕ) → field < 32 → IsExponent (twos_complement 5 field)
five_bits field fits =
    elim (cases_lt field 16) [
      | inl low ↦ let is = low_field 5 field low in (omega (arith, ints), omega (arith, ints))
      | inr high ↦ let is = high_field 5 field high in (omega (arith, ints), omega (arith, ints))
    ]

eleven_bits : (field : ℕ) → field < 2048 → unsigned_abs (twos_complement 11 field) ≤ 2048
eleven_bits field fits =
    elim (cases_lt field 1024) [
      | inl low ↦ let is = low_field 11 field low in omega (arith, ints)
      | inr high ↦ let is = high_field 11 field high in omega (arith, ints)
    ]

sixteen_bits : (field : ℕ) → field < 65536 → unsigned_abs (twos_complement 16 field) ≤ 65536
sixteen_bits field fits =
    elim (cases_lt field 32768) [
      | inl low ↦ let is = low_field 16 field low in omega (arith, ints)
      | inr high ↦ let is = high_field 16 field high in omega (arith, ints)
    ]

-- of DIRECT, without a sign or in two's complement
direct_bits : (unsigned : Bool) (field : ℕ) → field < 65536 → unsigned_abs (direct_word unsigned field) ≤ 65536
direct_bits true field fits = omega (arith, ints)
direct_bits false field fits = sixteen_bits field fits

-- ---- the linear formats

-- an exponent from -16 to 15, so a power of two up to 2 ^ 31
power_small : (exponent : ℤ) → IsExponent exponent → power exponent ≤ 2 ^ 31
power_small exponent is = pow-le-pow_right {n = 2} (omega arith) {i = unsigned_abs (exponent +ℤ pos 16)} {j = 31}
    (omega (arith, ints, is.0, is.1))

-- a number of 17 bits times such a power
scaled_small : (z : ℤ) (p : ℕ) → unsigned_abs z ≤ 65536 → p ≤ 2 ^ 31 → unsigned_abs (z *ℤ pos p) < 2 ^ 62
scaled_small z p few small = omega (
  arith,
  unsigned_abs-mul z (pos p),
  mul-le (unsigned_abs z) p 65536 (2 ^ 31) few small,
)

linear11_small : (code : ℕ) → code < 65536 → unsigned_abs (linear11_numerator code) < 2 ^ 62
linear11_small code fits =
    scaled_small (mantissa code) (power (exponent code)) (omega (arith, eleven_bits (code % 2 ^ 11) (omega arith)))
    (power_small (exponent code) (five_bits (code / 2 ^ 11) (omega arith)))

-- ---- DIRECT

positive_parts : (r : ℤ) → negsuc 8 ≤ℤ r → r ≤ℤ pos 9 → (positive_part r ≤ 9) × (positive_part (neg_ℤ r) ≤ 9)
positive_parts (pos zero) least greatest = (omega arith, omega arith)
positive_parts (pos (suc n)) least greatest = (omega (arith, ints, greatest), omega arith)
positive_parts (negsuc n) least greatest = (omega arith, omega (arith, ints, least))

-- ten to the ninth at most
tens_small : (k : ℕ) → k ≤ 9 → 10 ^ k ≤ 1000000000
tens_small k few = pow-le-pow_right {n = 10} (omega arith) {i = k} {j = 9} few

sign_small : (m : ℤ) → unsigned_abs (sign_of m) ≤ 1
sign_small (pos zero) = omega arith
sign_small (pos (suc n)) = omega arith
sign_small (negsuc n) = omega arith

difference_small : (x y : ℤ) → unsigned_abs (x -ℤ y) ≤ unsigned_abs x + unsigned_abs y
difference_small x y = omega (arith, ints)

direct_small : (s c b : ℤ) (down up : ℕ) → unsigned_abs s ≤ 1 → unsigned_abs c ≤ 65536 → unsigned_abs b ≤ 32768
    → down ≤ 1000000000 → up ≤ 1000000000
    → unsigned_abs (s *ℤ (c *ℤ pos down -ℤ b *ℤ pos up)) < 2 ^ 62
direct_small s c b down up sign word offset few many =
    let first : unsigned_abs (c *ℤ pos down) ≤ 65536 * 1000000000 =
    omega (arith, unsigned_abs-mul c (pos down), mul-le (unsigned_abs c) down 65536 1000000000 word few) in
    let second : unsigned_abs (b *ℤ pos up) ≤ 32768 * 1000000000 =
    omega (arith, unsigned_abs-mul b (pos up), mul-le (unsigned_abs b) up 32768 1000000000 offset many) in
    let inside : ℤ = c *ℤ pos down -ℤ b *ℤ pos up in
    let small : unsigned_abs inside ≤ 98304 * 1000000000 =
    omega (arith, difference_small (c *ℤ pos down) (b *ℤ pos up), first, second) in
    omega (
      arith,
      unsigned_abs-mul s inside,
      mul-le (unsigned_abs s) (unsigned_abs inside) 1
          (98304 * 1000000000) sign small,
    )

slope_some : (m : ℤ) → m ≢ pos 0 → 1 ≤ unsigned_abs m
slope_some (pos zero) slope = absurd (slope refl)
slope_some (pos (suc n)) slope = omega arith
slope_some (negsuc n) slope = omega arith

product_some : (a b : ℕ) → 1 ≤ a → 1 ≤ b → 0 < a * b
product_some a b some other = omega (arith, mul-le 1 1 a b some other)

-- ---- half precision

-- eleven bits times a power of two up to 2 ^ 30
magnitude_small : (code : ℕ) → magnitude code < 2 ^ 42
magnitude_small code =
    let field : ℕ = exponent_field code in
    let P : ℕ → Type 0 = λ n. n < 2 ^ 42 in
    let some : fraction code < 1024 = omega arith in
    let some_power : 2 ^ (field - 1) ≤ 2 ^ 30 =
    pow-le-pow_right {n = 2} (omega arith) {i = field - 1} {j = 30} (omega arith) in
    of_either P (field == 0) (fraction code) ((1024 + fraction code) * 2 ^ (field - 1)) (omega (arith, some))
    (omega (arith, mul-le (1024 + fraction code) (2 ^ (field - 1)) 2047 (2 ^ 30) (omega (arith, some)) some_power))

half_small : (code : ℕ) → unsigned_abs (half_numerator code) < 2 ^ 62
half_small code =
    let P : ℤ → Type 0 = λ z. unsigned_abs z < 2 ^ 62 in
    let small : magnitude code < 2 ^ 42 = magnitude_small code in
    of_either P (is_negative code) (neg_ℤ (pos (magnitude code))) (pos (magnitude code)) (omega (arith, ints, small))
    (omega (arith, ints, small))

-- ---- VID tables

-- a whole word, and a few more
vid_small : (table : VidTable) (code : ℕ) → code < 65536 → unsigned_abs (numerator table code) < 2 ^ 62
vid_small Vr11 code fits = omega (arith, ints, fits)
vid_small Vr12 code fits = omega (arith, ints, fits)
vid_small Vr13 code fits = omega (arith, ints, fits)
vid_small Imvp9 code fits = omega (arith, ints, fits)
vid_small Amd625mv code fits = omega (arith, ints, fits)
vid_small Nvidia195mv code fits = omega (arith, ints, fits)

denominators : (table : VidTable) → (0 < denominator table) × (denominator table < 2 ^ 62)
denominators Vr11 = (omega arith, omega arith)
denominators Vr12 = (omega arith, omega arith)
denominators Vr13 = (omega arith, omega arith)
denominators Imvp9 = (omega arith, omega arith)
denominators Amd625mv = (omega arith, omega arith)
denominators Nvidia195mv = (omega arith, omega arith)

-- ---- each format

module _ (lowest : LowestTermsAre) where
  pub of_linear11 : (code : ℕ) → code < 65536 → IsQuantity (value_of linear11 code)
  of_linear11 code fits = of_small lowest (linear11_numerator code) (2 ^ 16) (linear11_small code fits) (omega arith)
      (omega arith)

  pub of_ulinear16 : (exponent : ℤ) (code : ℕ) → IsExponent exponent → code < 65536
      → IsQuantity (value_of (ulinear16 exponent) code)
  of_ulinear16 exponent code is fits =
      of_small lowest (pos code *ℤ pos (power exponent)) (2 ^ 16)
      (scaled_small (pos code) (power exponent) (omega (arith, ints)) (power_small exponent is)) (omega arith)
      (omega arith)

  pub of_slinear16 : (exponent : ℤ) (code : ℕ) → IsExponent exponent → code < 65536
      → IsQuantity (value_of (slinear16 exponent) code)
  of_slinear16 exponent code is fits =
      of_small lowest (twos_complement 16 code *ℤ pos (power exponent)) (2 ^ 16)
      (scaled_small (twos_complement 16 code) (power exponent) (sixteen_bits code fits) (power_small exponent is))
      (omega arith) (omega arith)

  -- half precision, also where a word has no value
  pub of_half : (code : ℕ) → code < 65536 → IsQuantity (value_of half code)
  of_half code fits = of_small lowest (half_numerator code) (2 ^ 24) (half_small code) (omega arith) (omega arith)

  -- a VID table, also where a code has no voltage
  pub of_vid : (table : VidTable) (code : ℕ) → code < 65536 → IsQuantity (value_of (vid table) code)
  of_vid table code fits = of_small lowest (numerator table code) (denominator table) (vid_small table code fits)
      (denominators table).0 (denominators table).1

  pub of_direct : (d : Coefficients) (code : ℕ) → AreOfWords d → code < 65536 → IsQuantity (value_of (direct d) code)
  of_direct d code words fits =
      let parts = positive_parts d.r words.format.least words.format.greatest in
      let up : ℕ = 10 ^ positive_part d.r in
      let down : ℕ = 10 ^ positive_part (neg_ℤ d.r) in
      let up_small : up ≤ 1000000000 = tens_small (positive_part d.r) parts.0 in
      let down_small : down ≤ 1000000000 = tens_small (positive_part (neg_ℤ d.r)) parts.1 in
      let some : 0 < unsigned_abs d.m * up = product_some (unsigned_abs d.m) up (slope_some d.m words.format.slope)
      (one-le-pow (positive_part d.r) 10 (omega arith)) in
      let few : unsigned_abs d.m * up ≤ 32768 * 1000000000 =
      mul-le (unsigned_abs d.m) up 32768 1000000000 words.slope up_small in
      of_small lowest (sign_of d.m *ℤ (direct_word d.unsigned code *ℤ pos down -ℤ d.b *ℤ pos up))
      (unsigned_abs d.m * up)
      (direct_small (sign_of d.m) (direct_word d.unsigned code) d.b down up (sign_small d.m)
      (direct_bits d.unsigned code fits) words.offset down_small up_small) some (omega (arith, few))
