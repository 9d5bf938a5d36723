-- What a number format of two bytes codes (PMBus Part II revision 1.3, sections 7 and 8).
use Rattle.pmb_format.specs.Coding.{Coding}
use Rattle.pmb_half.specs.Half.{half}
use Rattle.pmb_linear.specs.Linear.{linear11, linear11_fixed}
use Rattle.pmb_vid.specs.Vid.{vid}
use Rattle.pmb_coefficients.specs.Coefficients.{MakeFormat}
use Rattle.pmb_coefficients.specs.Exponent.{IsExponent}
use Rattle.pmb_value.specs.Vout.{vout_coding}
use Rattle.pmb_value.specs.declared.vout.VoutFormat.{VoutFormat}
use Rattle.pmb_value.specs.declared.vout.VoutFormat.TheVariants.{Unsigned, Signed, Direct}
use Rattle.pmb_value.specs.declared.number_format.NumberFormat.{NumberFormat}
use Rattle.pmb_value.specs.declared.number_format.NumberFormat.TheVariants.{Linear11, Linear11Fixed, Word, Half, Vid}

-- the exponent or the coefficients of a format of VOUT are in their ranges
abbrev pub IsVoutFormat : VoutFormat → Type 0
IsVoutFormat (Unsigned exponent) = IsExponent exponent
IsVoutFormat (Signed exponent) = IsExponent exponent
IsVoutFormat (Direct d) = MakeFormat d

-- .. of a number format
abbrev pub IsFormat : NumberFormat → Type 0
IsFormat Linear11 = Unit {0}
IsFormat (Linear11Fixed exponent) = IsExponent exponent
IsFormat (Word format) = IsVoutFormat format
IsFormat Half = Unit {0}
IsFormat (Vid table) = Unit {0}

abbrev pub number_coding : NumberFormat → Coding
number_coding Linear11 = linear11
number_coding (Linear11Fixed exponent) = linear11_fixed exponent
number_coding (Word format) = vout_coding format
number_coding Half = half
number_coding (Vid table) = vid table
