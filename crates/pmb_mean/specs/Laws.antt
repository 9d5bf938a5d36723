-- Laws over the definitions alone.
use Rattle.std.specs.Prelude.{◌≡◌, ℕ, ◌*◌, ◌<◌, pos, ◌*ℤ◌, ◌≤ℤ◌, Some, List, [], ◌∷◌, length, map, All}
use Rattle.std.specs.Prelude.{Contains}
use Rattle.std.specs.Int.{◌∣◌}
use Rattle.pmb_quantity.specs.Fraction.{Fraction}
use Rattle.pmb_decimal.specs.Decimal.{rounded_text}
use Rattle.pmb_mean.specs.MeanText.{mean_text}
use Rattle.pmb_mean.specs.Numbers.{FitsKind, NumberData, greatest, least, mean, sum_over}

-- over each common denominator of the values, the mean times their count is the sum of their numerators
abbrev pub IsMeanOf : Fraction → List NumberData → Type 0
IsMeanOf q numbers = (d : ℕ) → 0 < d → All (λ n. n.value.denominator ∣ d) numbers
    → q.numerator *ℤ pos (d * length numbers) ≡ sum_over d numbers *ℤ pos q.denominator

-- the mean is so of its values
abbrev pub MeanIsMean : List NumberData → Type 0
MeanIsMean numbers = (q : Fraction) → All FitsKind numbers → mean numbers ≡ Some q → IsMeanOf q numbers

-- one fraction is at most another
abbrev pub IsAtMost : Fraction → Fraction → Type 0
IsAtMost p q = (p.numerator *ℤ pos q.denominator) ≤ℤ (q.numerator *ℤ pos p.denominator)

-- the value of one of them, and at most each
pub record IsLeast (q : Fraction) (numbers : List NumberData) : Type 0 where
  pub among : Contains (map (λ n. n.value) numbers) q
  pub at_most : All (λ n. IsAtMost q n.value) numbers

-- the least is so
abbrev pub LeastIsLeast : List NumberData → Type 0
LeastIsLeast numbers = (q : Fraction) → All FitsKind numbers → least numbers ≡ Some q → IsLeast q numbers

-- the value of one of them, and at least each
pub record IsGreatest (q : Fraction) (numbers : List NumberData) : Type 0 where
  pub among : Contains (map (λ n. n.value) numbers) q
  pub at_least : All (λ n. IsAtMost n.value q) numbers

-- the greatest is so
abbrev pub GreatestIsGreatest : List NumberData → Type 0
GreatestIsGreatest numbers = (q : Fraction) → All FitsKind numbers → greatest numbers ≡ Some q → IsGreatest q numbers

-- the mean is between the least and the greatest
abbrev pub MeanIsBetween : List NumberData → Type 0
MeanIsBetween numbers = (low q high : Fraction) → All FitsKind numbers → least numbers ≡ Some low
    → mean numbers ≡ Some q → greatest numbers ≡ Some high → IsAtMost low q × IsAtMost q high

-- the mean of one value has the text of that value
abbrev pub OneMeanIsValue : ℕ → NumberData → Type 0
OneMeanIsValue digits n = FitsKind n → mean_text digits (n ∷ []) ≡ rounded_text digits n.value
