-- The number of each status is one of 32 bits with a sign, as which C gets it.
use Rattle.std.proofs.Common.{◌≡◌, refl}
use Rattle.std.specs.Int.{w32, cast_signed, cast_unsigned}
use Rattle.pmb_format.specs.declared.format.RangeFault.TheVariants.{Below, Above}
use Rattle.pmb_quantity.specs.declared.quantity.QuantityFault.TheVariants.{Empty, BadDigit, ZeroDenominator, TooLarge}
use Rattle.pmb_value.specs.declared.number_format.WordFault.TheVariants.{NotANumber, NoCode, Off}
use Rattle.pmb_convert.specs.declared.format_fault.FormatFault.TheVariants.{BadFormat, BadExponent, ZeroSlope, BadScale}
use Rattle.pmb_convert.specs.declared.format_fault.FormatFault.TheVariants.{Relative, Vid, Ieee, NoCoefficients}
use Rattle.pmb_firmware.specs.CallStatus.{number_of}
use Rattle.pmb_firmware.specs.declared.call_status.CallStatus.{CallStatus}
use Rattle.pmb_firmware.specs.declared.call_status.CallStatus.TheVariants as status

pub fits : (why : CallStatus) → cast_signed w32 (cast_unsigned w32 (number_of why)) ≡ number_of why
fits status.Done = refl
fits (status.Range Below) = refl
fits (status.Range Above) = refl
fits (status.Format BadFormat) = refl
fits (status.Format BadExponent) = refl
fits (status.Format ZeroSlope) = refl
fits (status.Format BadScale) = refl
fits (status.Format Relative) = refl
fits (status.Format Vid) = refl
fits (status.Format Ieee) = refl
fits (status.Format NoCoefficients) = refl
fits (status.Quantity Empty) = refl
fits (status.Quantity BadDigit) = refl
fits (status.Quantity ZeroDenominator) = refl
fits (status.Quantity TooLarge) = refl
fits (status.Word NotANumber) = refl
fits (status.Word NoCode) = refl
fits (status.Word Off) = refl
fits status.NoName = refl
fits status.NoRoom = refl
fits status.BadProfile = refl
fits status.NoMemory = refl
fits status.BadChoice = refl
fits status.NoEvent = refl
fits status.BadToken = refl
fits status.Closed = refl
fits status.Ended = refl
fits status.Busy = refl
fits status.BadDigits = refl
fits status.BadDevice = refl
fits status.BadSource = refl
fits status.BadRate = refl
fits status.SigrokOnly = refl
fits status.NoBus = refl
