-- Which decimal is nearest to a fraction, and how it is written.
use Rattle.std.specs.Prelude.{◌≡◌, ◌≢◌, ℕ, ◌+◌, ◌*◌, ◌/◌, ◌%◌, ◌^◌, ◌≤◌, nat_lt, ℤ, pos, negsuc, neg_ℤ, ◌-ℤ◌, ◌*ℤ◌}
use Rattle.std.specs.Prelude.{unsigned_abs, Bool, ◌==◌, ◌&&◌, ◌||◌, if◌then◌else◌, List, [], ◌∷◌, ◌++◌, codes}
use Rattle.std.specs.Fmt.{decimal}
use Rattle.pmb_quantity.specs.Fraction.{Fraction}
use Rattle.pmb_quantity.specs.QuantityText.{minus, padded}
use Rattle.pmb_quantity.specs.Reading.{without_last_zeros}

-- how far n units of 10^-digits are from a fraction, times its denominator and 10^digits
unfoldable pub distance : ℕ → Fraction → ℤ → ℕ
distance digits q n = unsigned_abs (q.numerator *ℤ pos (10 ^ digits) -ℤ n *ℤ pos q.denominator)

-- n units of 10^-digits are nearest to a fraction: no other number of units is nearer, and where
-- another is just as near, n is even
pub record IsNearestDecimal (digits : ℕ) (q : Fraction) (n : ℤ) : Type 0 where
  pub none_nearer : (m : ℤ) → distance digits q n ≤ distance digits q m
  pub even_at_tie : (m : ℤ) → m ≢ n → distance digits q m ≡ distance digits q n → unsigned_abs n % 2 ≡ 0

-- whether n / d is rounded up: what is left is more than half, or half where the whole part is odd
abbrev pub rounds_up : ℕ → ℕ → Bool
rounds_up n d = nat_lt d (n % d * 2) || (n % d * 2 == d && n / d % 2 == 1)

-- n / d rounded to a whole number, half to even
unfoldable pub half_even : ℕ → ℕ → ℕ
half_even n d = if rounds_up n d then n / d + 1 else n / d

-- a number with the sign of another
abbrev pub with_sign : ℤ → ℕ → ℤ
with_sign (pos _) n = pos n
with_sign (negsuc _) n = neg_ℤ (pos n)

-- the units of 10^-digits that are nearest to a fraction
unfoldable pub nearest : ℕ → Fraction → ℤ
nearest digits q = with_sign q.numerator (half_even (unsigned_abs q.numerator * 10 ^ digits) q.denominator)

-- a point and digits, or nothing where there is no digit
abbrev pub after_point : List ℕ → List ℕ
after_point [] = []
after_point (d ∷ ds) = codes "." ++ (d ∷ ds)

-- n units of 10^-digits: the whole part, and the digits after the point without zeros at their end
unfoldable pub magnitude_text : ℕ → ℕ → List ℕ
magnitude_text digits n =
    decimal (n / 10 ^ digits) ++ after_point (without_last_zeros (padded digits (n % 10 ^ digits)))

-- .. with a sign where they are negative: 0 has none
unfoldable pub decimal_text : ℕ → ℤ → List ℕ
decimal_text digits n = minus n ++ magnitude_text digits (unsigned_abs n)

-- the nearest decimal with at most that many digits after the point
unfoldable pub rounded_text : ℕ → Fraction → List ℕ
rounded_text digits q = decimal_text digits (nearest digits q)
