-- LINEAR11's encoder rounds at the least power that reaches a quantity: for `nearest` of LINEAR11.
-- At that power the values around the quantity are neighbours among all codes (`Linear11Gap`), and
-- the rounded index names the nearest (`Rounded` of pmb_format).
use Rattle.std.proofs.Common.{◌≡◌, ℕ, ◌*◌, ◌-◌, ◌/◌, ◌%◌, ◌^◌, ◌<◌, ◌≤◌, ◌⊎◌, inl, inr, ℤ, pos, negsuc, ◌+ℤ◌, ◌*ℤ◌}
use Rattle.std.proofs.Common.{◌≤ℤ◌, sym, ap, ◌∙◌, arith}
use Rattle.std.proofs.lemmas.Int.{ints}
use Rattle.std.proofs.lemmas.Bool.{cases_lt, cases_eq}
use Rattle.std.proofs.lemmas.Nat.{pow_pos, pow-add, le-div, div_below}
use Rattle.std.proofs.Math.Nat.{mul_assoc, mul_comm, mul-lt-mul_of_pos_right}
use Rattle.std.proofs.Math.IntN.{*ℤ_comm}
use Rattle.pmb_quantity.specs.Fraction.{Fraction}
use Rattle.pmb_quantity.proofs.Scaling.{scale-scale}
use Rattle.pmb_format.specs.Coding.{IsNearest, IsInRange, scaled}
use Rattle.pmb_linear.specs.Linear.{linear11_numerator, linear11}
use Rattle.pmb_linear.specs.machine.Fields.{Reaches, IsFarther}
use Rattle.pmb_format.specs.Rounding.{Rounds}
use Rattle.pmb_format.specs.Written.{IsWritten}
use Rattle.pmb_format.proofs.Products.{product_le}
use Rattle.pmb_format.proofs.Rounded.{nearest_by_rounding, rounds_at_most, rounds_at_least}
use Rattle.pmb_linear.proofs.Linear11Ends.{least_value, greatest_value, IsLeast-linear11, IsGreatest-linear11}
use Rattle.pmb_linear.proofs.Linear11Gap.{index_gap, at_mantissa}

-- a number of spacings, times a denominator
spacings : (D : ℕ) (y : ℤ) (p : ℕ) → pos D *ℤ (y *ℤ pos p) ≡ y *ℤ pos (D * p)
spacings D y p = *ℤ_comm (pos D) (y *ℤ pos p) ∙ scale-scale y p D ∙ ap (λ k. y *ℤ pos k) (mul_comm p D)

-- a quantity in range lies between the ends
from_least_end : (q : Fraction) → 0 < q.denominator → IsInRange linear11 q
    → (negsuc 1023 *ℤ pos (q.denominator * 2 ^ 31)) ≤ℤ scaled linear11 q
from_least_end q positive range =
    let least = range.from_least in
    let end : (negsuc 1023 *ℤ pos (2 ^ 31)) ≤ℤ linear11_numerator least.0 =
    omega (arith, ints, least_value, IsLeast-linear11.least least.0 least.1) in
    omega (
      arith,
      ints,
      product_le q.denominator (negsuc 1023 *ℤ pos (2 ^ 31)) (linear11_numerator least.0) positive
          end,
      least.2,
      spacings q.denominator (negsuc 1023) (2 ^ 31),
    )

to_greatest_end : (q : Fraction) → 0 < q.denominator → IsInRange linear11 q
    → scaled linear11 q ≤ℤ (pos 1023 *ℤ pos (q.denominator * 2 ^ 31))
to_greatest_end q positive range =
    let greatest = range.to_greatest in
    let end : linear11_numerator greatest.0 ≤ℤ (pos 1023 *ℤ pos (2 ^ 31)) =
    omega (arith, ints, greatest_value, IsGreatest-linear11.greatest greatest.0 greatest.1) in
    omega (
      arith,
      ints,
      product_le q.denominator (linear11_numerator greatest.0)
          (pos 1023 *ℤ pos (2 ^ 31)) positive end,
      greatest.2,
      spacings q.denominator (pos 1023) (2 ^ 31),
    )

-- so the greatest power reaches it
pub greatest_reaches : (q : Fraction) (t : ℤ) (D : ℕ) → 0 < q.denominator → IsInRange linear11 q → t ≡ scaled linear11 q
    → D ≡ q.denominator → Reaches t (D * 2 ^ 31)
greatest_reaches q t D positive range t_is D_is =
    let divisor : D * 2 ^ 31 ≡ q.denominator * 2 ^ 31 = ap (λ k. k * 2 ^ 31) D_is in
    let some : 0 < q.denominator * 2 ^ 31 = mul-lt-mul_of_pos_right {m = 0} {n = q.denominator} positive (pow_pos 31) in
    record {
      from_least = omega (arith, ints, from_least_end q positive range, t_is, divisor);
      below = omega (arith, ints, to_greatest_end q positive range, t_is, divisor, some);
    }

-- A quantity in range, as target t over its denominator D; the power b, which reaches it while the
-- one before does not; and how many spacings d it is from -1024 of them, n / d, rounded to i.
pub record IsPlaced (q : Fraction) (t : ℤ) (D b d n i : ℕ) : Type 0 where
  pub positive : 0 < q.denominator
  pub range : IsInRange linear11 q
  -- the quantity, over its denominator
  pub target_is : t ≡ scaled linear11 q
  pub denominator_is : D ≡ q.denominator
  pub power_fits : b ≤ 31
  -- the power before doesn't reach it
  pub least : 0 < b → IsFarther t (D * 2 ^ (b - 1))
  -- one spacing at this power
  pub spacing_is : d ≡ D * 2 ^ b
  -- how far the quantity is from -1,024 spacings
  pub from_least : pos n ≡ t +ℤ pos (1024 * d)
  -- it is in reach: 2,048 spacings
  pub below : n < 2048 * d
  -- i is n / d, rounded to the nearest, ties to even
  pub rounds : Rounds n d i

module _ (q : Fraction) (t : ℤ) (D b d n i : ℕ) (is : IsPlaced q t D b d n i) where
  spacing_positive : 0 < d
  spacing_positive = omega (arith, is.below)

  -- half of a spacing is that of the power before
  half : 0 < b → d ≡ D * 2 ^ (b - 1) * 2
  half some =
      let power : 2 ^ b ≡ 2 ^ (b - 1) * 2 ^ 1 = ap (λ k. 2 ^ k) (omega arith) ∙ pow-add 2 (b - 1) 1 in
      is.spacing_is ∙ ap (λ p. D * p) power ∙ sym (mul_assoc D (2 ^ (b - 1)) 2)

  -- beyond the power before, the quantity is at least 512 spacings away from 0
  far : 0 < b → (n < 512 * d) ⊎ (1536 * d ≤ n)
  far some =
      elim (is.least some) [
        | inl low ↦ inl (omega (arith, ints, half some, is.from_least, low))
        | inr high ↦ inr (omega (arith, ints, half some, is.from_least, high))
      ]

  pub index_fits : i ≤ 2048
  index_fits = rounds_at_most n d i 2048 spacing_positive is.rounds (omega (arith, is.below))

  pub index_large : 0 < b → (i ≤ 512) ⊎ (1536 ≤ i)
  index_large some =
      elim (far some) [
        | inl low ↦ inl (rounds_at_most n d i 512 spacing_positive is.rounds (omega (arith, low)))
        | inr high ↦ inr (rounds_at_least n d i 1536 spacing_positive is.rounds high)
      ]

  pub has_room : i ≡ 2048 → b < 31
  has_room last =
      elim (cases_lt b 31) [
        | inl less ↦ less
        | inr greatest ↦
            let top : b ≡ 31 = omega (arith, is.power_fits) in
            let spacing : d ≡ q.denominator * 2 ^ 31 = is.spacing_is ∙ ap (λ k. k * 2 ^ b) is.denominator_is
            ∙ ap (λ k. q.denominator * 2 ^ k) top in
            let few : n ≤ 2047 * d = omega (
              arith,
              ints,
              to_greatest_end q is.positive is.range,
              is.target_is,
              is.from_least,
              spacing,
            ) in
            absurd (omega (arith, last, rounds_at_most n d i 2047 spacing_positive is.rounds few))
      ]

  place : (b ≡ 0) ⊎ ((1536 ≤ n / d) ⊎ (n / d < 512))
  place =
      elim (cases_eq b 0) [
        | inl none ↦ inl none
        | inr some ↦
            elim (far (omega arith)) [
              | inl low ↦ inr (inr (div_below n d 512 spacing_positive low))
              | inr high ↦ inr (inl (le-div 1536 n d spacing_positive high))
            ]
      ]

  pub placed_nearest : (c : ℕ) → IsWritten linear11 c → linear11_numerator c ≡ (negsuc 1023 +ℤ pos i) *ℤ pos (2 ^ b)
      → c % 2 ≡ i % 2 → IsNearest linear11 q c
  placed_nearest c written value parity =
      let spacing : d ≡ q.denominator * 2 ^ b = is.spacing_is ∙ ap (λ k. k * 2 ^ b) is.denominator_is in
      nearest_by_rounding linear11 q (negsuc 1023 *ℤ pos (2 ^ b)) (2 ^ b) n d i c (record {
        positive = is.positive;
        spaced = pow_pos b;
        from_first = omega (
          arith,
          ints,
          is.from_least,
          is.target_is,
          spacings q.denominator (negsuc 1023) (2 ^ b),
          spacing,
        );
        divisor = spacing;
        gap = index_gap b (n / d) place;
        rounds = is.rounds;
        written = written;
        value = value ∙ sym (at_mantissa b i);
        parity = parity;
      })
