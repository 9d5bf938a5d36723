-- What a history holds of the values that came: the sum of numerators, from which the mean
-- follows, and the rest as it is told.
use Rattle.std.specs.Prelude.{◌≡◌, ℕ, ◌+◌, ◌*◌, ◌-◌, ◌^◌, ◌≤◌, ℤ, pos, ◌+ℤ◌, unsigned_abs, ◌==◌, ◌||◌}
use Rattle.std.specs.Prelude.{if◌then◌else◌}
use Rattle.std.specs.Prelude.{Option, Some, None, List, length, fold}
use Rattle.pmb_quantity.specs.Fraction.{Fraction}
use Rattle.pmb_mean.specs.declared.sum.Sum.{Sum}
use Rattle.pmb_mean.specs.declared.sum.Sum.TheVariants.{Empty, Of, Mixed}
use Rattle.pmb_mean.specs.Numbers.{NumberData, count_assumed, denominator, greatest, is_below, kept}
use Rattle.pmb_mean.specs.Numbers.{last_value, least}
use Rattle.pmb_mean.specs.Numbers.{numerator, same}

-- ---- sums

-- a sum and a value: values of another kind make it mixed, for good
abbrev pub added : Sum → NumberData → Sum
added Empty n = Of n.over (numerator n)
added (Of over z) n = if same n.over over then Of over (z +ℤ numerator n) else Mixed
added Mixed n = Mixed

-- the sum of values
abbrev pub sum_of : List NumberData → Sum
sum_of = fold added Empty

-- the sum of numerators, 0 where there is none
abbrev pub total_of : Sum → ℤ
total_of Empty = pos 0
total_of (Of over z) = z
total_of Mixed = pos 0

-- how many values a sum has at least
abbrev pub fewest : Sum → ℕ
fewest Empty = 0
fewest (Of over z) = 1
fewest Mixed = 1

-- the mean of as many values
abbrev pub mean_of : Sum → ℕ → Option Fraction
mean_of Empty count = None
mean_of (Of over z) count = Some (record { numerator = z; denominator = denominator over * count })
mean_of Mixed count = None

-- ---- histories

-- how many values came, how many of them assumed, their sum, and the values that are told where any came
pub record HistoryData : Type 0 where
  pub count : ℕ
  pub assumed : ℕ
  pub total : Sum
  pub least : Fraction
  pub greatest : Fraction
  pub last : Fraction

-- what each history is: its sum is no larger than as many numerators may be
pub record IsHistory (h : HistoryData) : Type 0 where
  pub counted : fewest h.total ≤ h.count
  pub few : h.assumed ≤ h.count
  pub bounded : unsigned_abs (total_of h.total) ≤ h.count * (2 ^ 62 - 1)

-- the least and the greatest of a history's values and one more
abbrev pub least_after : ℕ → Fraction → Fraction → Fraction
least_after count q value = if count == 0 || is_below value q then value else q

abbrev pub greatest_after : ℕ → Fraction → Fraction → Fraction
greatest_after count q value = if count == 0 || is_below q value then value else q

-- a history and one value more
abbrev pub after : HistoryData → NumberData → HistoryData
after h n = record {
  count = h.count + 1;
  assumed = h.assumed + (if n.assumed then 1 else 0);
  total = added h.total n;
  least = least_after h.count h.least n.value;
  greatest = greatest_after h.count h.greatest n.value;
  last = n.value;
}

-- a fraction, where any value came
abbrev pub told : ℕ → Fraction → Option Fraction
told count q = if count == 0 then None else Some q

-- it holds what these values come to
pub record Holds (h : HistoryData) (numbers : List NumberData) : Type 0 where
  pub count : h.count ≡ length numbers
  pub assumed : h.assumed ≡ count_assumed numbers
  pub total : h.total ≡ sum_of numbers
  pub least : told h.count h.least ≡ least numbers
  pub greatest : told h.count h.greatest ≡ greatest numbers
  pub last : told h.count h.last ≡ last_value numbers

-- .. of those that came, as many as are kept
pub record HistoryStandsAt (h : HistoryData) (numbers : List NumberData) : Type 0 where
  pub holds : Holds h (kept numbers)
