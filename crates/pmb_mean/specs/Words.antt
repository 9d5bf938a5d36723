-- Which number a word is.
use Rattle.std.specs.Prelude.{ℕ, Bool, Option, Some, None, Result, Ok, Err}
use Rattle.pmb_quantity.specs.Fraction.{Fraction}
use Rattle.pmb_value.specs.WordFault.{value_in}
use Rattle.pmb_value.specs.declared.number_format.NumberFormat.{NumberFormat}
use Rattle.pmb_value.specs.declared.number_format.NumberFormat.TheVariants.{Linear11, Linear11Fixed, Word, Half, Vid}
use Rattle.pmb_value.specs.declared.number_format.WordFault.{WordFault}
use Rattle.pmb_value.specs.declared.vout.VoutFormat.TheVariants.{Unsigned, Signed, Direct}
use Rattle.pmb_mean.specs.declared.denominators.Denominators.{Denominators}
use Rattle.pmb_mean.specs.declared.denominators.Denominators.TheVariants.{Dyadic, Over, Vids}
use Rattle.pmb_mean.specs.Numbers.{NumberData}

-- what a value in a format is a fraction over
abbrev pub denominators_of : NumberFormat → Denominators
denominators_of Linear11 = Dyadic
denominators_of (Linear11Fixed exponent) = Dyadic
denominators_of (Word (Unsigned exponent)) = Dyadic
denominators_of (Word (Signed exponent)) = Dyadic
denominators_of (Word (Direct d)) = Over d
denominators_of Half = Dyadic
denominators_of (Vid table) = Vids

abbrev pub number_if : Result Fraction WordFault → Denominators → Bool → Option NumberData
number_if (Ok value) over assumed = Some (record { value = value; over = over; assumed = assumed })
number_if (Err fault) over assumed = None

-- the value of a word in a format, where it has one
abbrev pub word_number : NumberFormat → ℕ → Bool → Option NumberData
word_number format word assumed = number_if (value_in format word) (denominators_of format) assumed
