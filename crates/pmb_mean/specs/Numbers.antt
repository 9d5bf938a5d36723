-- What is kept of the values of one command on one page: how often it came, the least, greatest
-- and last value, and the exact mean. Each is a function of the list of these values, in the order
-- in which they came.
use Rattle.std.specs.Prelude.{ℕ, ◌*◌, ◌-◌, ◌/◌, ◌^◌, ◌<◌, ℤ, pos, ◌+ℤ◌, ◌*ℤ◌, unsigned_abs, int_lt, Bool}
use Rattle.std.specs.Prelude.{true, false}
use Rattle.std.specs.Prelude.{◌==◌, if◌then◌else◌, Option, Some, None, List, [], ◌∷◌, length, take, fold}
use Rattle.std.specs.Prelude.{count_by}
use Rattle.std.specs.Int.{◌∣◌}
use Rattle.std.specs.List.{list_all}
use Rattle.pmb_quantity.specs.Fraction.{Fraction}
use Rattle.pmb_format.specs.Direct.{positive_part}
use Rattle.pmb_mean.specs.declared.denominators.Denominators.{Denominators}
use Rattle.pmb_mean.specs.declared.denominators.Denominators.TheVariants.{Dyadic, Over, Vids}

-- ---- what values are fractions over

-- 2^24 for the linear formats and half precision; the slope times ten to R for DIRECT; 800 for the
-- tables of VID, whose steps are 1/160, 1/200 and 1/100
abbrev pub denominator : Denominators → ℕ
denominator Dyadic = 2 ^ 24
denominator (Over d) = unsigned_abs d.m * 10 ^ positive_part d.r
denominator Vids = 800

-- values of two kinds are not put together, nor those of DIRECT over two denominators
abbrev pub same : Denominators → Denominators → Bool
same Dyadic Dyadic = true
same Dyadic (Over d) = false
same Dyadic Vids = false
same (Over d) Dyadic = false
same (Over d) (Over e) = denominator (Over d) == denominator (Over e)
same (Over d) Vids = false
same Vids Dyadic = false
same Vids (Over d) = false
same Vids Vids = true

-- ---- values

-- a value, what it is a fraction over, and whether the VOUT_MODE by which it was read is assumed
pub record NumberData : Type 0 where
  pub value : Fraction
  pub over : Denominators
  pub assumed : Bool

-- the numerator of a fraction over a multiple of its denominator
abbrev pub numerator_over : ℕ → Fraction → ℤ
numerator_over d q = q.numerator *ℤ pos (d / q.denominator)

-- .. and of a value over the denominator of its kind
abbrev pub numerator : NumberData → ℤ
numerator n = numerator_over (denominator n.over) n.value

-- a value is a fraction over the denominator of its kind, and its numerator there is below 2^62
pub record FitsKind (n : NumberData) : Type 0 where
  pub some : 0 < denominator n.over
  pub positive : 0 < n.value.denominator
  pub divides : n.value.denominator ∣ denominator n.over
  pub small : unsigned_abs (numerator n) < 2 ^ 62

-- a count has 64 bits, so the first 2^64 - 1 values are kept, and no more
unfoldable pub kept : List NumberData → List NumberData
kept numbers = take (2 ^ 64 - 1) numbers

-- ---- how often, the least, the greatest, the last

-- how many of them were read by a VOUT_MODE that is assumed
abbrev pub count_assumed : List NumberData → ℕ
count_assumed = count_by (λ n. n.assumed)

-- one fraction is less than another
abbrev pub is_below : Fraction → Fraction → Bool
is_below p q = int_lt (p.numerator *ℤ pos q.denominator) (q.numerator *ℤ pos p.denominator)

-- the least so far and a value: of two equal ones the first
abbrev pub lesser : Option Fraction → NumberData → Option Fraction
lesser None n = Some n.value
lesser (Some q) n = Some (if is_below n.value q then n.value else q)

-- the least value
abbrev pub least : List NumberData → Option Fraction
least = fold lesser None

-- the greatest so far and a value: of two equal ones the first
abbrev pub greater : Option Fraction → NumberData → Option Fraction
greater None n = Some n.value
greater (Some q) n = Some (if is_below q n.value then n.value else q)

-- the greatest value
abbrev pub greatest : List NumberData → Option Fraction
greatest = fold greater None

-- the last value: each takes the place of the one before it
abbrev pub last_value : List NumberData → Option Fraction
last_value = fold (λ _ n. Some n.value) None

-- ---- the mean

-- the sum of the numerators over one denominator
abbrev pub sum_over : ℕ → List NumberData → ℤ
sum_over d = fold (λ z n. z +ℤ numerator_over d n.value) (pos 0)

-- that sum, over the denominator times how many there are
abbrev pub mean_over : ℕ → List NumberData → Fraction
mean_over d numbers = record { numerator = sum_over d numbers; denominator = d * length numbers }

-- all of them are of one kind
abbrev pub are_over : Denominators → List NumberData → Bool
are_over over = list_all (λ n. same n.over over)

-- the mean, where there is a value, and all are of the kind of the first
abbrev pub mean : List NumberData → Option Fraction
mean [] = None
mean (n ∷ numbers) = if are_over n.over numbers then Some (mean_over (denominator n.over) (n ∷ numbers)) else None
