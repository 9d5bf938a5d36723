-- The encoder of half precision rounds at the least power that reaches a quantity: for `nearest`.
-- At that power the values around its size are neighbours among all codes, and the rounded count
-- names the nearest (`Rounded` of pmb_format); below 0 it is the same with all signs turned round.
use Rattle.std.proofs.Common.{◌≡◌, ℕ, ◌+◌, ◌*◌, ◌-◌, ◌/◌, ◌%◌, ◌^◌, ◌<◌, ◌≤◌, ◌⊎◌, inl, inr, ℤ, pos, neg_ℤ}
use Rattle.std.proofs.Common.{◌<ℤ◌, ◌≤ℤ◌, unsigned_abs, sym, ap, ◌∙◌, arith}
use Rattle.std.proofs.lemmas.Int.{ints, by_lt_z}
use Rattle.std.proofs.lemmas.Bool.{cases_lt}
use Rattle.std.proofs.lemmas.Nat.{pow_pos, pow-add, le-div, div_below}
use Rattle.std.proofs.Math.Nat.{mul_assoc}
use Rattle.pmb_quantity.specs.Fraction.{Fraction}
use Rattle.pmb_quantity.specs.Quantity.{negative}
use Rattle.pmb_format.specs.Coding.{IsNearest, IsInRange, scaled}
use Rattle.pmb_format.specs.Row.{mirrored}
use Rattle.pmb_format.specs.Rounding.{Rounds}
use Rattle.pmb_format.specs.Written.{IsWritten}
use Rattle.pmb_format.proofs.Products.{product_le, product-neg}
use Rattle.pmb_format.proofs.Neighbours.{IsGap, mirror_nearest}
use Rattle.pmb_format.proofs.Rounded.{at, nearest_by_rounding, rounds_at_most, rounds_at_least}
use Rattle.pmb_half.specs.Half.{magnitude, half_numerator, half}
use Rattle.pmb_half.proofs.Magnitudes.{rises_le, magnitude_at, positive_value, negative_value, plus, minus, sides}
use Rattle.pmb_half.proofs.HalfEnds.{greatest_magnitude, IsLeast-half, IsGreatest-half}

-- ---- between a count and the next, at the least power that reaches it

magnitude_gap : (m b j : ℕ) → m < 31744 → b ≤ 29 → j < 2048 → (0 < b → 1024 ≤ j)
    → (magnitude m ≤ j * 2 ^ b) ⊎ ((j + 1) * 2 ^ b ≤ magnitude m)
magnitude_gap m b j low power below large =
    let own = magnitude_at b j power (omega (arith, below)) large in
    let sum : b * 1024 + j + 1 ≡ b * 1024 + (j + 1) = omega arith in
    let next : magnitude (b * 1024 + j + 1) ≡ (j + 1) * 2 ^ b = ap magnitude sum
    ∙ magnitude_at b (j + 1) power (omega (arith, below)) (λ some. omega (arith, large some)) in
    elim (cases_lt (b * 1024 + j) m) [
      | inl behind ↦ inr (omega (arith, next, rises_le (b * 1024 + j + 1) m (omega (arith, behind)) low))
      | inr before ↦ inl (omega (arith, own, rises_le m (b * 1024 + j) before (omega (arith, power, below))))
    ]

positive_gap : (b j : ℕ) → b ≤ 29 → j < 2048 → (0 < b → 1024 ≤ j)
    → IsGap half (at (pos 0) (2 ^ b) j) (at (pos 0) (2 ^ b) (j + 1))
positive_gap b j power below large k code =
    elim (sides k code) [
      | plus m low is value ↦
          elim (magnitude_gap m b j low power below large) [
            | inl less ↦ inl (omega (arith, ints, value, less))
            | inr more ↦ inr (omega (arith, ints, value, more))
          ]
      | minus m low is value ↦ inl (omega (arith, ints, value))
    ]

negative_gap : (b j : ℕ) → b ≤ 29 → j < 2048 → (0 < b → 1024 ≤ j)
    → IsGap (mirrored half) (at (pos 0) (2 ^ b) j) (at (pos 0) (2 ^ b) (j + 1))
negative_gap b j power below large k code =
    elim (sides k code) [
      | plus m low is value ↦ inl (omega (arith, ints, value))
      | minus m low is value ↦
          elim (magnitude_gap m b j low power below large) [
            | inl less ↦ inl (omega (arith, ints, value, less))
            | inr more ↦ inr (omega (arith, ints, value, more))
          ]
    ]

-- ---- a quantity in range

size_at_most : (q : Fraction) → 0 < q.denominator → IsInRange half q
    → unsigned_abs (scaled half q) ≤ 2047 * (q.denominator * 2 ^ 29)
size_at_most q positive range =
    let end : ℤ = pos (2047 * 2 ^ 29) in
    let least = range.from_least in
    let greatest = range.to_greatest in
    let least_end : neg_ℤ end ≤ℤ half_numerator least.0 = omega (
      arith,
      ints,
      IsLeast-half.least least.0 least.1,
      negative_value 31743 (omega arith),
      greatest_magnitude,
    ) in
    let greatest_end : half_numerator greatest.0 ≤ℤ end = omega (
      arith,
      ints,
      IsGreatest-half.greatest greatest.0 greatest.1,
      positive_value 31743 (omega arith),
      greatest_magnitude,
    ) in
    let low = product_le q.denominator (neg_ℤ end) (half_numerator least.0) positive least_end in
    let high = product_le q.denominator (half_numerator greatest.0) end positive greatest_end in
    omega (arith, ints, low, high, least.2, greatest.2, product-neg q.denominator end)

-- so the greatest power reaches it
pub greatest_reaches : (q : Fraction) (n D : ℕ) → 0 < q.denominator → IsInRange half q
    → n ≡ unsigned_abs (scaled half q) → D ≡ q.denominator → n < 2048 * (D * 2 ^ 29)
greatest_reaches q n D positive range size_is denominator_is =
    omega (arith, size_at_most q positive range, size_is, denominator_is, positive)

-- A quantity in range, whose size is n over its denominator D; the power b, which reaches it while
-- the one before does not; and n / d, rounded to i, where d is one spacing.
pub record IsPlaced (q : Fraction) (D b d n i : ℕ) : Type 0 where
  pub positive : 0 < q.denominator
  pub range : IsInRange half q
  pub size_is : n ≡ unsigned_abs (scaled half q)
  pub denominator_is : D ≡ q.denominator
  pub power_fits : b ≤ 29
  -- the power reaches it,
  pub reaches : n < 2048 * (D * 2 ^ b)
  -- and the one before does not
  pub least : 0 < b → 2048 * (D * 2 ^ (b - 1)) ≤ n
  -- one spacing at this power
  pub spacing_is : d ≡ D * 2 ^ b
  -- i is n / d, rounded to the nearest, ties to even
  pub rounds : Rounds n d i

module _ (q : Fraction) (D b d n i : ℕ) (is : IsPlaced q D b d n i) where
  below : n < 2048 * d
  below = omega (arith, is.reaches, is.spacing_is)

  spacing_positive : 0 < d
  spacing_positive = omega (arith, below)

  -- half of a spacing is that of the power before
  half_spacing : 0 < b → d ≡ D * 2 ^ (b - 1) * 2
  half_spacing some =
      let power : 2 ^ b ≡ 2 ^ (b - 1) * 2 ^ 1 = ap (λ k. 2 ^ k) (omega (arith, some)) ∙ pow-add 2 (b - 1) 1 in
      is.spacing_is ∙ ap (λ p. D * p) power ∙ sym (mul_assoc D (2 ^ (b - 1)) 2)

  -- beyond the power before it has at least 1,024 spacings
  far : 0 < b → 1024 * d ≤ n
  far some = omega (arith, is.least some, half_spacing some)

  pub count_fits : i ≤ 2048
  count_fits = rounds_at_most n d i 2048 spacing_positive is.rounds (omega (arith, below))

  pub count_large : 0 < b → 1024 ≤ i
  count_large some = rounds_at_least n d i 1024 spacing_positive is.rounds (far some)

  pub has_room : b ≡ 29 → i < 2048
  has_room top =
      let spacing : d ≡ q.denominator * 2 ^ 29 = is.spacing_is ∙ ap (λ k. k * 2 ^ b) is.denominator_is
      ∙ ap (λ k. q.denominator * 2 ^ k) top in
      let few : n ≤ 2047 * d = omega (arith, size_at_most q is.positive is.range, is.size_is, spacing) in
      omega (arith, rounds_at_most n d i 2047 spacing_positive is.rounds few)

  divisor : d ≡ q.denominator * 2 ^ b
  divisor = is.spacing_is ∙ ap (λ k. k * 2 ^ b) is.denominator_is

  whole_below : n / d < 2048
  whole_below = div_below n d 2048 spacing_positive below

  whole_large : 0 < b → 1024 ≤ n / d
  whole_large some = le-div 1024 n d spacing_positive (far some)

  -- a code of the count, with the sign of the quantity
  pub placed_nearest : (c : ℕ) → IsWritten half c
      → (pos 0 ≤ℤ scaled half q → half_numerator c ≡ pos (i * 2 ^ b))
      → (scaled half q <ℤ pos 0 → half_numerator c ≡ neg_ℤ (pos (i * 2 ^ b))) → c % 2 ≡ i % 2 → IsNearest half q c
  placed_nearest c written above_zero below_zero parity =
      by_lt_z (scaled half q) (pos 0)
      (λ less. mirror_nearest half q c
      (nearest_by_rounding (mirrored half) (negative q) (pos 0) (2 ^ b) n d i c (record {
        positive = is.positive;
        spaced = pow_pos b;
        from_first = omega (arith, ints, is.size_is, less);
        divisor = divisor;
        gap = negative_gap b (n / d) is.power_fits whole_below whole_large;
        rounds = is.rounds;
        written = written;
        value = omega (arith, ints, below_zero less);
        parity = parity;
      })))
      (λ at_least. nearest_by_rounding half q (pos 0) (2 ^ b) n d i c (record {
        positive = is.positive;
        spaced = pow_pos b;
        from_first = omega (arith, ints, is.size_is, at_least);
        divisor = divisor;
        gap = positive_gap b (n / d) is.power_fits whole_below whole_large;
        rounds = is.rounds;
        written = written;
        value = omega (arith, ints, above_zero at_least);
        parity = parity;
      }))
