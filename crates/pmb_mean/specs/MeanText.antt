-- How a mean is written.
use Rattle.std.specs.Prelude.{ℕ, Option, Some, None, List, []}
use Rattle.pmb_quantity.specs.Fraction.{Fraction}
use Rattle.pmb_decimal.specs.Decimal.{rounded_text}
use Rattle.pmb_mean.specs.Numbers.{NumberData, mean}

-- the nearest decimal, or nothing where there is no fraction
abbrev pub some_text : ℕ → Option Fraction → List ℕ
some_text digits None = []
some_text digits (Some q) = rounded_text digits q

-- the mean of values, rounded once
abbrev pub mean_text : ℕ → List NumberData → List ℕ
mean_text digits numbers = some_text digits (mean numbers)
