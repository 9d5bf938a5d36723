-- How large the numerators of words are, in DIRECT under coefficients of 16 bits and in half precision.
use Rattle.std.proofs.Common.{◌≡◌, ◌≢◌, ℕ, zero, suc, ◌+◌, ◌-◌, ◌*◌, ◌^◌, ◌<◌, ◌≤◌, inl, inr, ℤ, pos, negsuc}
use Rattle.std.proofs.Common.{neg_ℤ, ◌-ℤ◌, ◌*ℤ◌, ◌≤ℤ◌, Bool, true, false, unsigned_abs, refl, sym, arith}
use Rattle.std.proofs.Common.{◌==◌}
use Rattle.std.proofs.lemmas.Bool.{cases_lt, cond_above, cond_below}
use Rattle.std.proofs.lemmas.Int.{ints, unsigned_abs-mul}
use Rattle.std.proofs.lemmas.Nat.{mul-le}
use Rattle.std.proofs.Math.Nat.{one-le-pow, pow-le-pow_right}
use Rattle.pmb_coefficients.specs.Coefficients.{Coefficients}
use Rattle.pmb_format.specs.Direct.{direct, direct_word, positive_part, sign_of}
use Rattle.pmb_format.specs.Words.{twos_complement}
use Rattle.pmb_half.specs.Half.{exponent_field, fraction, half_numerator, is_negative, magnitude}
use Rattle.pmb_json_objects.specs.Laws.{AreOfWords}
use Rattle.pmb_json_objects.proofs.Fine.{of_either}

low_field : (bits field : ℕ) → field < 2 ^ (bits - 1) → twos_complement bits field ≡ pos field
unfolding twos_complement
low_field bits field low = sym (cond_below field (2 ^ (bits - 1)) (pos field) (pos field -ℤ pos (2 ^ bits)) low)

high_field : (bits field : ℕ) → 2 ^ (bits - 1) ≤ field → twos_complement bits field ≡ pos field -ℤ pos (2 ^ bits)
unfolding twos_complement
high_field bits field high = sym (cond_above field (2 ^ (bits - 1)) (pos field) (pos field -ℤ pos (2 ^ bits))
    (pos field -ℤ pos (2 ^ bits)) high refl)

sixteen_bits : (field : ℕ) → field < 65536 → unsigned_abs (twos_complement 16 field) ≤ 65536
sixteen_bits field fits =
    elim (cases_lt field 32768) [
      | inl low ↦ let is = low_field 16 field low in omega (arith, ints)
      | inr high ↦ let is = high_field 16 field high in omega (arith, ints)
    ]

-- of DIRECT, without a sign or in two's complement
direct_bits : (unsigned : Bool) (field : ℕ) → field < 65536 → unsigned_abs (direct_word unsigned field) ≤ 65536
direct_bits true field fits = omega (arith, ints)
direct_bits false field fits = sixteen_bits field fits

positive_parts : (r : ℤ) → negsuc 8 ≤ℤ r → r ≤ℤ pos 9 → (positive_part r ≤ 9) × (positive_part (neg_ℤ r) ≤ 9)
positive_parts (pos zero) least greatest = (omega arith, omega arith)
positive_parts (pos (suc n)) least greatest = (omega (arith, ints, greatest), omega arith)
positive_parts (negsuc n) least greatest = (omega arith, omega (arith, ints, least))

-- ten to the ninth at most
tens_small : (k : ℕ) → k ≤ 9 → 10 ^ k ≤ 1000000000
tens_small k few = pow-le-pow_right {n = 10} (omega arith) {i = k} {j = 9} few

sign_small : (m : ℤ) → unsigned_abs (sign_of m) ≤ 1
sign_small (pos zero) = omega arith
sign_small (pos (suc n)) = omega arith
sign_small (negsuc n) = omega arith

difference_small : (x y : ℤ) → unsigned_abs (x -ℤ y) ≤ unsigned_abs x + unsigned_abs y
difference_small x y = omega (arith, ints)

direct_small : (s c b : ℤ) (down up : ℕ) → unsigned_abs s ≤ 1 → unsigned_abs c ≤ 65536 → unsigned_abs b ≤ 32768
    → down ≤ 1000000000 → up ≤ 1000000000
    → unsigned_abs (s *ℤ (c *ℤ pos down -ℤ b *ℤ pos up)) < 2 ^ 62
direct_small s c b down up sign word offset few many =
    let first : unsigned_abs (c *ℤ pos down) ≤ 65536 * 1000000000 =
    omega (arith, unsigned_abs-mul c (pos down), mul-le (unsigned_abs c) down 65536 1000000000 word few) in
    let second : unsigned_abs (b *ℤ pos up) ≤ 32768 * 1000000000 =
    omega (arith, unsigned_abs-mul b (pos up), mul-le (unsigned_abs b) up 32768 1000000000 offset many) in
    let inside : ℤ = c *ℤ pos down -ℤ b *ℤ pos up in
    let small : unsigned_abs inside ≤ 98304 * 1000000000 =
    omega (arith, difference_small (c *ℤ pos down) (b *ℤ pos up), first, second) in
    omega (
      arith,
      unsigned_abs-mul s inside,
      mul-le (unsigned_abs s) (unsigned_abs inside) 1
          (98304 * 1000000000) sign small,
    )

slope_some : (m : ℤ) → m ≢ pos 0 → 1 ≤ unsigned_abs m
slope_some (pos zero) slope = absurd (slope refl)
slope_some (pos (suc n)) slope = omega arith
slope_some (negsuc n) slope = omega arith

product_some : (a b : ℕ) → 1 ≤ a → 1 ≤ b → 0 < a * b
product_some a b some other = omega (arith, mul-le 1 1 a b some other)

-- eleven bits times a power of two up to 2 ^ 30
magnitude_small : (code : ℕ) → magnitude code < 2 ^ 42
magnitude_small code =
    let field : ℕ = exponent_field code in
    let P : ℕ → Type 0 = λ n. n < 2 ^ 42 in
    let some : fraction code < 1024 = omega arith in
    let some_power : 2 ^ (field - 1) ≤ 2 ^ 30 =
    pow-le-pow_right {n = 2} (omega arith) {i = field - 1} {j = 30} (omega arith) in
    of_either P (field == 0) (fraction code) ((1024 + fraction code) * 2 ^ (field - 1)) (omega (arith, some))
    (omega (arith, mul-le (1024 + fraction code) (2 ^ (field - 1)) 2047 (2 ^ 30) (omega (arith, some)) some_power))

pub half_small : (code : ℕ) → unsigned_abs (half_numerator code) < 2 ^ 62
half_small code =
    let P : ℤ → Type 0 = λ z. unsigned_abs z < 2 ^ 62 in
    let small : magnitude code < 2 ^ 42 = magnitude_small code in
    of_either P (is_negative code) (neg_ℤ (pos (magnitude code))) (pos (magnitude code)) (omega (arith, ints, small))
    (omega (arith, ints, small))

-- The numerator and the denominator of a word in DIRECT.
pub record DirectFits (d : Coefficients) (code : ℕ) : Type 0 where
  pub some : 0 < (direct d).denominator
  pub few : (direct d).denominator ≤ 32768 * 1000000000
  pub numerator : unsigned_abs ((direct d).numerator code) < 2 ^ 62

pub direct_fits : (d : Coefficients) (code : ℕ) → AreOfWords d → code < 65536 → DirectFits d code
direct_fits d code words fits =
    let parts = positive_parts d.r words.format.least words.format.greatest in
    let up : ℕ = 10 ^ positive_part d.r in
    let down : ℕ = 10 ^ positive_part (neg_ℤ d.r) in
    let up_small : up ≤ 1000000000 = tens_small (positive_part d.r) parts.0 in
    let down_small : down ≤ 1000000000 = tens_small (positive_part (neg_ℤ d.r)) parts.1 in record {
      some = product_some (unsigned_abs d.m) up (slope_some d.m words.format.slope)
          (one-le-pow (positive_part d.r) 10 (omega arith));
      few = mul-le (unsigned_abs d.m) up 32768 1000000000 words.slope up_small;
      numerator = direct_small (sign_of d.m) (direct_word d.unsigned code) d.b down up (sign_small d.m)
          (direct_bits d.unsigned code fits) words.offset down_small up_small;
    }
