-- What a simulated device answers to the body of a read or of a call, in its state: the bytes of a
-- reply, or, where it refuses to be read, the bit of STATUS_CML that it sets.
--
-- The bits are those of PMBus Part II 1.3 chapter 17; when a device sets which is this project's
-- own rule, and so is the order of the reasons. COEFFICIENTS is of section 14.1 there.
use Rattle.std.specs.Prelude.{ℕ, Bool, false, ◌&&◌, if◌then◌else◌, Option, Some, None, Result, Ok, Err, List, [], ◌∷◌}
use Rattle.std.specs.Prelude.{◌++◌, is_some, nat_eq, option_and_then}
use Rattle.std.specs.Int.{w8, w16, cast_unsigned, to_le_bytes}
use Rattle.std.specs.Option.{unwrap_or}
use Rattle.pmb_coefficients.specs.Coefficients.{Coefficients}
use Rattle.pmb_command.specs.declared.entry.Kind.{Kind}
use Rattle.pmb_command.specs.declared.entry.Kind.TheVariants.{Raw, Number, Vout, VoutSigned, Status, Text}
use Rattle.pmb_value.specs.declared.number_format.NumberFormat.{NumberFormat}
use Rattle.pmb_value.specs.declared.number_format.NumberFormat.TheVariants as formats
use Rattle.pmb_value.specs.declared.vout.VoutFormat.{VoutFormat}
use Rattle.pmb_value.specs.declared.vout.VoutFormat.TheVariants.{Unsigned, Signed, Direct}
use Rattle.pmb_command.specs.Fitting.{register_form}
use Rattle.pmb_command.specs.Parts.{CommandParts, DeviceParts, command_with}
use Rattle.pmb_registers.specs.declared.cml_bit.CmlBit.{CmlBit}
use Rattle.pmb_registers.specs.declared.cml_bit.CmlBit.TheVariants.{BadCommand, BadValue}
use Rattle.pmb_registers.specs.State.{DeviceState, held}

-- the page number that selects all pages (PMBus Part II 1.3 section 11.10)
abbrev pub all_pages : ℕ
all_pages = 0xff

-- a command has a register for each page
abbrev pub has_pages : CommandParts → Bool
has_pages command = command.entry.paged && is_some (register_form command.entry.shape)

abbrev pub is_paged : Option CommandParts → Bool
is_paged None = false
is_paged (Some command) = has_pages command

-- the coefficients of a format, where it is DIRECT
abbrev pub coefficients_of_word : VoutFormat → Option Coefficients
coefficients_of_word (Unsigned exponent) = None
coefficients_of_word (Signed exponent) = None
coefficients_of_word (Direct coefficients) = Some coefficients

abbrev pub coefficients_of_format : NumberFormat → Option Coefficients
coefficients_of_format formats.Linear11 = None
coefficients_of_format (formats.Linear11Fixed exponent) = None
coefficients_of_format (formats.Word format) = coefficients_of_word format
coefficients_of_format formats.Half = None
coefficients_of_format (formats.Vid table) = None

-- The coefficients of a command's numbers: the command's own where they are in DIRECT, the device's
-- where they are output voltages and it has some. Numbers of another kind have none.
abbrev pub coefficients_of_kind : Option Coefficients → Kind → Option Coefficients
coefficients_of_kind vout Raw = None
coefficients_of_kind vout (Number format) = coefficients_of_format format
coefficients_of_kind vout Vout = vout
coefficients_of_kind vout VoutSigned = vout
coefficients_of_kind vout Status = None
coefficients_of_kind vout Text = None

abbrev pub coefficients_of : DeviceParts → ℕ → Option Coefficients
coefficients_of device code =
    option_and_then (λ command. coefficients_of_kind device.vout_direct command.entry.kind)
    (command_with code device.commands)

-- m and b as words in two's complement, low byte first, and R as a byte
abbrev pub coefficient_bytes : Coefficients → List ℕ
coefficient_bytes c =
    to_le_bytes w16 (cast_unsigned w16 c.m) ++ to_le_bytes w16 (cast_unsigned w16 c.b) ++ cast_unsigned w8 c.r ∷ []

-- the reply to COEFFICIENTS; a command without coefficients is a bad value
abbrev pub coefficients_reply : Option Coefficients → Result (List ℕ) CmlBit
coefficients_reply None = Err BadValue
coefficients_reply (Some coefficients) = Ok (coefficient_bytes coefficients)

-- The answer to a call of COEFFICIENTS. After its code come a count, the code of a command, and a
-- byte for the direction, which makes no difference here.
abbrev pub answer_coefficients : DeviceParts → List ℕ → Result (List ℕ) CmlBit
answer_coefficients device [] = Err BadValue
answer_coefficients device (count ∷ []) = Err BadValue
answer_coefficients device (count ∷ code ∷ []) = Err BadValue
answer_coefficients device (count ∷ code ∷ direction ∷ []) = coefficients_reply (coefficients_of device code)
answer_coefficients device (count ∷ code ∷ direction ∷ more ∷ rest) = Err BadValue

-- A read, which has the code alone, is answered with what the register holds on the selected page.
-- Of calls only COEFFICIENTS is answered.
abbrev pub answer_of_page : DeviceParts → DeviceState → ℕ → List ℕ → Result (List ℕ) CmlBit
answer_of_page device state code [] = Ok (unwrap_or (held state.page code state.registers) [])
answer_of_page device state code (byte ∷ behind) =
    if nat_eq code 0x30 then answer_coefficients device (byte ∷ behind) else Err BadCommand

-- The answer to a body. While all pages are selected, a command with a register for each page is
-- refused.
abbrev pub answer : DeviceParts → DeviceState → List ℕ → Result (List ℕ) CmlBit
answer device state [] = Err BadCommand
answer device state (code ∷ behind) =
    if nat_eq state.page all_pages && is_paged (command_with code device.commands) then Err BadValue
    else answer_of_page device state code behind
