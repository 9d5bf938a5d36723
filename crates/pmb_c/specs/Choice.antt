-- What C chooses of JSON.
use Rattle.std.specs.List.{list_all}
use Rattle.std.specs.Prelude.{ℕ, Bool, ◌==◌, not, nat_lt, if◌then◌else◌, List, Option, Some, None, Result, Ok, Err}
use Rattle.pmb_firmware.specs.declared.call_status.CallStatus.{CallStatus}
use Rattle.pmb_firmware.specs.declared.call_status.CallStatus.TheVariants.{BadChoice, BadDigits, BadDevice}
use Rattle.pmb_in_memory.specs.declared.json_choice.JsonChoice.{JsonChoice}
use Rattle.pmb_c.specs.declared.choice.PmbChoice.{PmbChoice}
use Rattle.pmb_scan.specs.declared.after_bad_token.AfterBadToken.{AfterBadToken}
use Rattle.pmb_scan.specs.declared.after_bad_token.AfterBadToken.TheVariants.{End, Continue}
use Rattle.pmb_unknown_start.specs.declared.start.Start.{Start}
use Rattle.pmb_unknown_start.specs.declared.start.Start.TheVariants.{AllKnown, Late, LateFixedMode}

-- what is known of PAGE and VOUT_MODE where the capture begins
abbrev pub start_of : ℕ → Option Start
start_of number =
    if number == 0 then Some AllKnown else (
    if number == 1 then Some LateFixedMode else (
    if number == 2 then Some Late else None))

-- what is done after a word that is no token
abbrev pub bad_words_of : ℕ → Option AfterBadToken
bad_words_of number =
    if number == 0 then Some End else (
    if number == 1 then Some Continue else None)

-- the address of a device has seven bits
abbrev pub is_address : ℕ → Bool
is_address byte = nat_lt byte 0x80

abbrev pub chosen_by : ℕ → List ℕ → Option Start → Option AfterBadToken → Result JsonChoice CallStatus
chosen_by digits devices (Some start) (Some bad_words) =
    if nat_lt 12 digits then Err BadDigits else
    if not (list_all is_address devices) then Err BadDevice else
    Ok (record { digits = digits; start = start; bad_words = bad_words })
chosen_by digits devices (Some start) None = Err BadChoice
chosen_by digits devices None bad_words = Err BadChoice

-- What is chosen, of devices at these addresses, or the first fault: a number says nothing in its field, there are too
-- many digits, a byte is no address.
abbrev pub chosen : PmbChoice → List ℕ → Result JsonChoice CallStatus
chosen choice devices = chosen_by choice.digits devices (start_of choice.start) (bad_words_of choice.bad_words)
