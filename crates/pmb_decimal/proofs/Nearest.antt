-- What is within half a unit of a quantity, and even at a tie, is nearest to it. For the law
-- `decimals_are_nearest`. Another number of units lies a whole unit or more away, on either side,
-- so it is no nearer; the rounding is within half a unit (HalfEven), whatever the sign.
use Rattle.std.proofs.Common.{◌≡◌, ℕ, ◌+◌, ◌*◌, ◌%◌, ◌^◌, ◌<◌, ◌≤◌, ℤ, pos, negsuc, suc, neg_ℤ, ◌+ℤ◌, ◌-ℤ◌, ◌*ℤ◌, ◌≤ℤ◌}
use Rattle.std.proofs.Common.{unsigned_abs, refl, sym, ap, ◌∙◌, subst, arith}
use Rattle.std.proofs.lemmas.Int.{ints, by_lt_z}
use Rattle.pmb_quantity.specs.Fraction.{Fraction}
use Rattle.pmb_quantity.proofs.Scaling.{ordered, neg-scale}
use Rattle.pmb_quantity.proofs.Fitted.{unsigned_abs-neg}
use Rattle.pmb_decimal.specs.Decimal.{IsNearestDecimal, distance, half_even, with_sign, nearest}
use Rattle.pmb_decimal.proofs.HalfEven.{IsNear, half_even-near}
use Rattle.pmb_decimal.proofs.Products.{apart}

-- n units are within half a unit of a fraction, and n is even where they are just half a unit away
pub record IsWithinHalf (digits : ℕ) (q : Fraction) (n : ℤ) : Type 0 where
  -- at most half a unit away, and even where it is half
  pub half : distance digits q n * 2 ≤ q.denominator
  pub even : distance digits q n * 2 ≡ q.denominator → unsigned_abs n % 2 ≡ 0

-- ---- what is rounded is within half a unit
half_apart : (a b d : ℕ) → a * 2 ≤ b * 2 + d → b * 2 ≤ a * 2 + d → unsigned_abs (pos a -ℤ pos b) * 2 ≤ d
half_apart a b d low high = grind (arith, ints)

tie_even : (a b d r : ℕ) → (a * 2 ≡ b * 2 + d → r % 2 ≡ 0) → (b * 2 ≡ a * 2 + d → r % 2 ≡ 0)
    → unsigned_abs (pos a -ℤ pos b) * 2 ≡ d → r % 2 ≡ 0
tie_even a b d r below above tie =
    by_lt_z (pos a) (pos b) (λ less. above (omega (arith, ints))) (λ at_most. below (omega (arith, ints)))

-- both signs turned
turned : (a b : ℕ) → unsigned_abs (neg_ℤ (pos a) -ℤ neg_ℤ (pos b)) ≡ unsigned_abs (pos a -ℤ pos b)
turned a b = omega (arith, ints)

-- the distance of a number of the same sign
distance_is : (z : ℤ) (unit d r : ℕ) → unsigned_abs (z *ℤ pos unit -ℤ with_sign z r *ℤ pos d)
    ≡ unsigned_abs (pos (unsigned_abs z * unit) -ℤ pos (r * d))
distance_is (pos x) unit d r = refl
distance_is (negsuc x) unit d r =
    ap (λ p. unsigned_abs (neg_ℤ (pos (suc x * unit)) -ℤ p)) (neg-scale r d) ∙ turned (suc x * unit) (r * d)

pub magnitude_is : (z : ℤ) (r : ℕ) → unsigned_abs (with_sign z r) ≡ r
magnitude_is (pos x) r = refl
magnitude_is (negsuc x) r = unsigned_abs-neg (pos r)

module _ (digits : ℕ) (q : Fraction) (positive : 0 < q.denominator) where
  abbrev scaled : ℕ
  scaled = unsigned_abs q.numerator * 10 ^ digits

  abbrev units : ℕ
  units = half_even scaled q.denominator

  rounded_distance : distance digits q (nearest digits q) ≡ unsigned_abs (pos scaled -ℤ pos (units * q.denominator))
  unfolding distance nearest
  rounded_distance = distance_is q.numerator (10 ^ digits) q.denominator units

  rounded_magnitude : unsigned_abs (nearest digits q) ≡ units
  unfolding nearest
  rounded_magnitude = magnitude_is q.numerator units

  pub rounded_within_half : IsWithinHalf digits q (nearest digits q)
  rounded_within_half =
      let near : IsNear scaled q.denominator units = half_even-near scaled q.denominator positive in
      let half : unsigned_abs (pos scaled -ℤ pos (units * q.denominator)) * 2 ≤ q.denominator =
      half_apart scaled (units * q.denominator) q.denominator near.from_below near.from_above in
      record {
        half = subst (λ (x : ℕ). x * 2 ≤ q.denominator) (sym rounded_distance) half;
        even = λ tie.
            rounded_magnitude_even (tie_even scaled (units * q.denominator) q.denominator units near.even_below
            near.even_above (ap (λ x. x * 2) (sym rounded_distance) ∙ tie));
      }
    where
      rounded_magnitude_even : units % 2 ≡ 0 → unsigned_abs (nearest digits q) % 2 ≡ 0
      rounded_magnitude_even even = ap (λ r. r % 2) rounded_magnitude ∙ even

-- ---- what is within half a unit is nearest
-- another number lies a whole unit or more away, on either side
nearer_than_lower : (a x y : ℤ) (d : ℕ) → (y +ℤ pos d) ≤ℤ x → unsigned_abs (a -ℤ x) * 2 ≤ d
    → unsigned_abs (a -ℤ x) ≤ unsigned_abs (a -ℤ y)
nearer_than_lower a x y d apart half = grind (arith, ints)

nearer_than_higher : (a x y : ℤ) (d : ℕ) → (x +ℤ pos d) ≤ℤ y → unsigned_abs (a -ℤ x) * 2 ≤ d
    → unsigned_abs (a -ℤ x) ≤ unsigned_abs (a -ℤ y)
nearer_than_higher a x y d apart half = grind (arith, ints)

tie_with_lower : (a x y : ℤ) (d : ℕ) → (y +ℤ pos d) ≤ℤ x → unsigned_abs (a -ℤ x) * 2 ≤ d
    → unsigned_abs (a -ℤ y) ≡ unsigned_abs (a -ℤ x) → unsigned_abs (a -ℤ x) * 2 ≡ d
tie_with_lower a x y d apart half tie = grind (arith, ints)

tie_with_higher : (a x y : ℤ) (d : ℕ) → (x +ℤ pos d) ≤ℤ y → unsigned_abs (a -ℤ x) * 2 ≤ d
    → unsigned_abs (a -ℤ y) ≡ unsigned_abs (a -ℤ x) → unsigned_abs (a -ℤ x) * 2 ≡ d
tie_with_higher a x y d apart half tie = grind (arith, ints)

module _ (digits : ℕ) (q : Fraction) (n : ℤ) (within : IsWithinHalf digits q n) where
  abbrev target : ℤ
  target = q.numerator *ℤ pos (10 ^ digits)

  abbrev at : ℤ → ℤ
  at m = m *ℤ pos q.denominator

  none_nearer : (m : ℤ) → distance digits q n ≤ distance digits q m
  unfolding distance
  none_nearer m =
      by_lt_z m n
      (λ less. nearer_than_lower target (at n) (at m) q.denominator (apart m n q.denominator less) within.half)
      (λ at_most.
      by_lt_z n m
      (λ more. nearer_than_higher target (at n) (at m) q.denominator (apart n m q.denominator more) within.half)
      (λ at_least.
      let same : n ≡ m = omega (arith, ints) in
      omega (arith, ap (λ k. distance digits q k) same)))

  even_at_tie : (m : ℤ) → (m ≡ n → ⊥) → distance digits q m ≡ distance digits q n → unsigned_abs n % 2 ≡ 0
  unfolding distance
  even_at_tie m other tie =
      within.even (ordered m n other
      (λ less. tie_with_lower target (at n) (at m) q.denominator (apart m n q.denominator less) within.half tie)
      (λ more. tie_with_higher target (at n) (at m) q.denominator (apart n m q.denominator more) within.half tie))

  pub nearest_within_half : IsNearestDecimal digits q n
  nearest_within_half = record { none_nearer = none_nearer; even_at_tie = even_at_tie }

-- what is written is nearest
pub nearest_is_nearest : (digits : ℕ) (q : Fraction) → 0 < q.denominator → IsNearestDecimal digits q (nearest digits q)
nearest_is_nearest digits q positive =
    nearest_within_half digits q (nearest digits q) (rounded_within_half digits q positive)
