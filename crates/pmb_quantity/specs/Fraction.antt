-- Fractions and their lowest terms.
use Rattle.std.specs.Prelude.{◌≡◌, ℕ, zero, suc, ◌+◌, ◌/◌, ◌%◌, ◌^◌, ◌<◌, ℤ, pos, ◌*ℤ◌, unsigned_abs, int_div, ◌==◌}
use Rattle.std.specs.Prelude.{◌&&◌, if◌then◌else◌}
use Rattle.std.specs.Int.{◌∣◌}

-- a whole number over a whole number
pub record Fraction : Type 0 where
  pub numerator : ℤ
  pub denominator : ℕ

-- in lowest terms: each number that divides both is 1
unfoldable pub IsLowest : Fraction → Type 0
IsLowest q = (k : ℕ) → k ∣ unsigned_abs q.numerator → k ∣ q.denominator → k ≡ 1

-- the value of n over d
abbrev pub HasValue : ℤ → ℤ → Fraction → Type 0
HasValue n d q = q.numerator *ℤ d ≡ pos q.denominator *ℤ n

-- what a Quantity holds: a fraction in lowest terms, both numbers below 2^62
pub record IsQuantity (q : Fraction) : Type 0 where
  pub numerator_fits : unsigned_abs q.numerator < 2 ^ 62
  pub denominator_fits : q.denominator < 2 ^ 62
  pub positive : 0 < q.denominator
  pub lowest : IsLowest q

-- the greatest number, up to a bound, that divides both
abbrev pub common_divisor : ℕ → ℕ → ℕ → ℕ
common_divisor zero a b = 0
common_divisor (suc n) a b = if a % suc n == 0 && b % suc n == 0 then suc n else common_divisor n a b

-- the greatest number that divides both: none is above their sum
unfoldable pub gcd : ℕ → ℕ → ℕ
gcd a b = common_divisor (a + b) a b

-- n over d in lowest terms: both over their greatest common divisor
abbrev pub lowest_terms : ℤ → ℕ → Fraction
lowest_terms n d =
    let divisor = gcd (unsigned_abs n) d in
    record { numerator = int_div n (pos divisor); denominator = d / divisor }
