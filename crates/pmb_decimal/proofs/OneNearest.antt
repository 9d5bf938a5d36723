-- Only one decimal is nearest. For the law `one_decimal_is_nearest`. Two that are nearest are
-- equally near, so both are even (a tie goes to the even one); but between two even numbers is a
-- third, which is nearer than both.
use Rattle.std.proofs.Common.{◌≡◌, ℕ, ◌%◌, ◌^◌, ◌<◌, ℤ, pos, ◌+ℤ◌, ◌-ℤ◌, ◌*ℤ◌, ◌<ℤ◌, unsigned_abs, sym, arith}
use Rattle.std.proofs.lemmas.Int.{ints, by_lt_z}
use Rattle.pmb_quantity.specs.Fraction.{Fraction}
use Rattle.pmb_quantity.proofs.Scaling.{scale_lt}
use Rattle.pmb_decimal.specs.Decimal.{IsNearestDecimal, distance}
use Rattle.pmb_decimal.proofs.Products.{even_apart}

-- what lies between two equally near numbers is nearer than both
nearer_between : (a x y z : ℤ) → x <ℤ z → z <ℤ y → unsigned_abs (a -ℤ x) ≡ unsigned_abs (a -ℤ y)
    → unsigned_abs (a -ℤ z) < unsigned_abs (a -ℤ x)
nearer_between a x y z low high tie = grind (arith, ints)

module _ (digits : ℕ) (q : Fraction) (positive : 0 < q.denominator) where
  -- two that are nearest are equally near, so both are even, and one between them is nearer
  between : (m n : ℤ) → distance digits q m ≡ distance digits q n → m <ℤ n → (m +ℤ pos 1) <ℤ n
      → distance digits q (m +ℤ pos 1) < distance digits q m
  unfolding distance
  between m n tie less apart =
      nearer_between (q.numerator *ℤ pos (10 ^ digits)) (m *ℤ pos q.denominator) (n *ℤ pos q.denominator)
      ((m +ℤ pos 1) *ℤ pos q.denominator) (scale_lt m (m +ℤ pos 1) q.denominator positive (omega (arith, ints)))
      (scale_lt (m +ℤ pos 1) n q.denominator positive apart) tie

  not_less : (m n : ℤ) → IsNearestDecimal digits q m → IsNearestDecimal digits q n → m <ℤ n → ⊥
  not_less m n m_nearest n_nearest less =
      let tie : distance digits q m ≡ distance digits q n =
      omega (arith, m_nearest.none_nearer n, n_nearest.none_nearer m) in
      let m_even : unsigned_abs m % 2 ≡ 0 = m_nearest.even_at_tie n (λ same. omega (arith, ints, less)) (sym tie) in
      let n_even : unsigned_abs n % 2 ≡ 0 = n_nearest.even_at_tie m (λ same. omega (arith, ints, less)) tie in
      let nearer = between m n tie less (even_apart m n m_even n_even less) in
      omega (arith, nearer, m_nearest.none_nearer (m +ℤ pos 1))

  pub one_nearest : (m n : ℤ) → IsNearestDecimal digits q m → IsNearestDecimal digits q n → m ≡ n
  one_nearest m n m_nearest n_nearest =
      by_lt_z m n
      (λ less. absurd (not_less m n m_nearest n_nearest less))
      (λ at_most.
      by_lt_z n m (λ more. absurd (not_less n m n_nearest m_nearest more))
      (λ at_least. omega (arith, ints, at_most, at_least)))
