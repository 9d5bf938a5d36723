-- The numbers that C gets for the status of a call, and the names that the header has for them.
use Rattle.std.specs.Prelude.{ℕ, ℤ, pos, negsuc, ◌==◌, if◌then◌else◌, List, Option, Some, None, codes}
use Rattle.pmb_format.specs.declared.format.RangeFault.TheVariants.{Below, Above}
use Rattle.pmb_quantity.specs.declared.quantity.QuantityFault.TheVariants.{Empty, BadDigit, ZeroDenominator, TooLarge}
use Rattle.pmb_value.specs.declared.number_format.WordFault.TheVariants.{NotANumber, NoCode, Off}
use Rattle.pmb_convert.specs.declared.format_fault.FormatFault.TheVariants.{BadFormat, BadExponent, ZeroSlope, BadScale}
use Rattle.pmb_convert.specs.declared.format_fault.FormatFault.TheVariants.{Relative, Vid, Ieee, NoCoefficients}
use Rattle.pmb_firmware.specs.declared.call_status.CallStatus.{CallStatus}
use Rattle.pmb_firmware.specs.declared.call_status.CallStatus.TheVariants as status

abbrev pub number_of : CallStatus → ℤ
number_of status.Done = pos 0
number_of (status.Range Below) = pos 1
number_of (status.Range Above) = pos 2
number_of (status.Format BadFormat) = pos 3
number_of (status.Format BadExponent) = pos 4
number_of (status.Format ZeroSlope) = pos 5
number_of (status.Format BadScale) = pos 6
number_of (status.Format Relative) = pos 7
number_of (status.Format Vid) = pos 8
number_of (status.Format Ieee) = pos 9
number_of (status.Format NoCoefficients) = pos 10
number_of (status.Quantity Empty) = pos 11
number_of (status.Quantity BadDigit) = pos 12
number_of (status.Quantity ZeroDenominator) = pos 13
number_of (status.Quantity TooLarge) = pos 14
number_of status.NoName = pos 15
number_of status.NoRoom = pos 16
number_of status.BadProfile = pos 17
number_of status.NoMemory = pos 18
number_of status.BadChoice = pos 19
number_of status.NoEvent = pos 20
number_of status.BadToken = pos 21
number_of (status.Word NotANumber) = pos 22
number_of (status.Word NoCode) = pos 23
number_of (status.Word Off) = pos 24
number_of status.Closed = pos 25
number_of status.Ended = pos 26
number_of status.Busy = pos 27
number_of status.BadDigits = pos 28
number_of status.BadDevice = pos 29
number_of status.BadSource = pos 30
number_of status.BadRate = pos 31
number_of status.SigrokOnly = pos 32
number_of status.NoBus = pos 33

-- the name of the status of a number, if it is one
abbrev pub named : ℕ → Option (List ℕ)
named number =
    if number == 0 then Some (codes "PMB_OK")
    else if number == 1 then Some (codes "PMB_BELOW")
    else if number == 2 then Some (codes "PMB_ABOVE")
    else if number == 3 then Some (codes "PMB_BAD_FORMAT")
    else if number == 4 then Some (codes "PMB_BAD_EXPONENT")
    else if number == 5 then Some (codes "PMB_ZERO_SLOPE")
    else if number == 6 then Some (codes "PMB_BAD_SCALE")
    else if number == 7 then Some (codes "PMB_RELATIVE")
    else if number == 8 then Some (codes "PMB_VID")
    else if number == 9 then Some (codes "PMB_IEEE")
    else if number == 10 then Some (codes "PMB_NO_COEFFICIENTS")
    else if number == 11 then Some (codes "PMB_EMPTY")
    else if number == 12 then Some (codes "PMB_BAD_DIGIT")
    else if number == 13 then Some (codes "PMB_ZERO_DENOMINATOR")
    else if number == 14 then Some (codes "PMB_TOO_LARGE")
    else if number == 15 then Some (codes "PMB_NO_NAME")
    else if number == 16 then Some (codes "PMB_NO_ROOM")
    else if number == 17 then Some (codes "PMB_BAD_PROFILE")
    else if number == 18 then Some (codes "PMB_NO_MEMORY")
    else if number == 19 then Some (codes "PMB_BAD_CHOICE")
    else if number == 20 then Some (codes "PMB_NO_EVENT")
    else if number == 21 then Some (codes "PMB_BAD_TOKEN")
    else if number == 22 then Some (codes "PMB_NOT_A_NUMBER")
    else if number == 23 then Some (codes "PMB_NO_CODE")
    else if number == 24 then Some (codes "PMB_OFF")
    else if number == 25 then Some (codes "PMB_CLOSED")
    else if number == 26 then Some (codes "PMB_ENDED")
    else if number == 27 then Some (codes "PMB_BUSY")
    else if number == 28 then Some (codes "PMB_BAD_DIGITS")
    else if number == 29 then Some (codes "PMB_BAD_DEVICE")
    else if number == 30 then Some (codes "PMB_BAD_SOURCE")
    else if number == 31 then Some (codes "PMB_BAD_RATE")
    else if number == 32 then Some (codes "PMB_SIGROK_ONLY")
    else if number == 33 then Some (codes "PMB_NO_BUS")
    else None

-- .. of a number with a sign
abbrev pub status_name : ℤ → Option (List ℕ)
status_name (pos number) = named number
status_name (negsuc number) = None
