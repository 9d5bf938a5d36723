-- The format that VOUT_MODE names (PMBus Part II revision 1.3, section 8).
use Rattle.std.specs.Prelude.{ℕ, ◌/◌, ◌%◌, ◌^◌, ℤ, Bool, true, false, ◌==◌, if◌then◌else◌, Option, Some, None, Result}
use Rattle.std.specs.Prelude.{Ok, Err}
use Rattle.pmb_format.specs.Coding.{Coding}
use Rattle.pmb_format.specs.Words.{twos_complement}
use Rattle.pmb_linear.specs.Linear.{ulinear16, slinear16}
use Rattle.pmb_coefficients.specs.Coefficients.{Coefficients}
use Rattle.pmb_format.specs.Direct.{direct}
use Rattle.pmb_value.specs.declared.vout.ModeFault.{ModeFault}
use Rattle.pmb_value.specs.declared.vout.ModeFault.TheVariants.{Relative, Vid, Ieee, NoCoefficients}
use Rattle.pmb_value.specs.declared.vout.VoutFormat.{VoutFormat}
use Rattle.pmb_value.specs.declared.vout.VoutFormat.TheVariants.{Unsigned, Signed, Direct}

-- the linear format of an exponent, for signed words or unsigned ones
abbrev pub linear_of : Bool → ℤ → VoutFormat
linear_of true exponent = Signed exponent
linear_of false exponent = Unsigned exponent

-- the coefficients for signed words or for the others, which have a sign or none as these say
abbrev pub direct_words : Bool → Coefficients → Coefficients
direct_words true d = record d { unsigned = false }
direct_words false d = d

-- DIRECT, where there are coefficients
abbrev pub direct_of : Bool → Option Coefficients → Result VoutFormat ModeFault
direct_of signed None = Err NoCoefficients
direct_of signed (Some d) = Ok (Direct (direct_words signed d))

-- Bit 7 is 1 for relative values. Bits 6:5 are 00 for a linear format, 01 for VID, 10 for DIRECT,
-- 11 for IEEE half precision. Bits 4:0 are the exponent of a linear format.
abbrev pub format_of : ℕ → Bool → Option Coefficients → Result VoutFormat ModeFault
format_of mode signed coefficients =
    let kind = mode / 2 ^ 5 % 2 ^ 2 in
    if mode / 2 ^ 7 == 1 then Err Relative else (
    if kind == 1 then Err Vid else (
    if kind == 3 then Err Ieee else (
    if kind == 2 then direct_of signed coefficients else
    Ok (linear_of signed (twos_complement 5 (mode % 2 ^ 5))))))

-- what a format of VOUT codes
abbrev pub vout_coding : VoutFormat → Coding
vout_coding (Unsigned exponent) = ulinear16 exponent
vout_coding (Signed exponent) = slinear16 exponent
vout_coding (Direct d) = direct d
