-- How a quantity is written.
use Rattle.std.specs.Prelude.{ℕ, zero, suc, ◌+◌, ◌*◌, ◌/◌, ◌%◌, ◌^◌, ℤ, pos, negsuc, unsigned_abs, Bool, ◌==◌}
use Rattle.std.specs.Prelude.{if◌then◌else◌, Option, Some, None, List, [], ◌∷◌, ◌++◌, codes}
use Rattle.std.specs.Fmt.{decimal}
use Rattle.pmb_quantity.specs.Character.{zero_digit}
use Rattle.pmb_quantity.specs.Fraction.{Fraction}

-- the first of so many numbers, from this one on, that passes the test
unfoldable pub first_of : (ℕ → Bool) → ℕ → ℕ → Option ℕ
first_of test from zero = None
first_of test from (suc count) = if test from then Some from else first_of test (from + 1) count

-- the fewest digits after a point, up to 24, that write a fraction of this denominator exactly: it
-- divides 10^places
unfoldable pub places_of : ℕ → Option ℕ
places_of d = first_of (λ places. 10 ^ places % d == 0) 0 25

-- the sign
abbrev pub minus : ℤ → List ℕ
minus (pos _) = []
minus (negsuc _) = codes "-"

-- n in so many digits
abbrev pub padded : ℕ → ℕ → List ℕ
padded zero n = []
padded (suc places) n = padded places (n / 10) ++ (zero_digit + n % 10) ∷ []

-- a point and so many digits, or nothing
abbrev pub after_point : ℕ → ℕ → List ℕ
after_point zero n = []
after_point (suc places) n = codes "." ++ padded (suc places) n

-- n over d: with a point where so many digits after it write the fraction exactly, and else with a
-- slash
abbrev pub magnitude_text : ℕ → ℕ → Option ℕ → List ℕ
magnitude_text n d (Some places) = decimal (n / d) ++ after_point places (n % d * (10 ^ places / d))
magnitude_text n d None = decimal n ++ (codes "/" ++ decimal d)

-- the shortest exact decimal where there is one of up to 24 digits after the point, and else `n/d`
unfoldable pub spelling : Fraction → List ℕ
spelling q = minus q.numerator ++ magnitude_text (unsigned_abs q.numerator) q.denominator (places_of q.denominator)
