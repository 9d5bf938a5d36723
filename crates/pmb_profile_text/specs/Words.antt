-- The words of a table: modes, forms, kinds, coefficients, bytes, addresses, pages, types.
use Rattle.std.specs.Prelude.{ℕ, ◌/◌, ◌%◌, ◌^◌, ◌==◌, Bool, true, false, if◌then◌else◌, Option, Some, None, Result, Ok, Err}
use Rattle.std.specs.Prelude.{List, [], ◌∷◌, ◌++◌, codes, decimal}
use Rattle.std.specs.Fmt.{signed_decimal}
use Rattle.std.specs.List.{flat_map}
use Rattle.hex.specs.Hex.{encode_lower}
use Rattle.pmb_coefficients.specs.Coefficients.{Coefficients}
use Rattle.pmb_command.specs.declared.entry.Kind.{Kind}
use Rattle.pmb_command.specs.declared.entry.Kind.TheVariants as kinds
use Rattle.pmb_command.specs.declared.form.Form.{Form}
use Rattle.pmb_command.specs.declared.form.Form.TheVariants.{Zero, One, Two, Four, Eight, Block}
use Rattle.pmb_command.specs.declared.pec_mode.PecMode.{PecMode}
use Rattle.pmb_command.specs.declared.pec_mode.PecMode.TheVariants.{Off, On, Optional}
use Rattle.pmb_command.specs.Parts.{DeviceParts, VidParts}
use Rattle.pmb_value.specs.Vout.{format_of}
use Rattle.pmb_value.specs.declared.number_format.NumberFormat.{NumberFormat}
use Rattle.pmb_value.specs.declared.number_format.NumberFormat.TheVariants as numbers
use Rattle.pmb_value.specs.declared.vout.ModeFault.{ModeFault}
use Rattle.pmb_value.specs.declared.vout.ModeFault.TheVariants.{Relative, Vid, Ieee, NoCoefficients}
use Rattle.pmb_value.specs.declared.vout.VoutFormat.{VoutFormat}
use Rattle.pmb_value.specs.declared.vout.VoutFormat.TheVariants as formats
use Rattle.pmb_vid.specs.Names.{table_name}

-- whether packets carry a packet error code (SMBus 3.0 section 6.4), as the key `pec` has it
abbrev pub pec_word : PecMode → List ℕ
pec_word Off = codes "off"
pec_word On = codes "on"
pec_word Optional = codes "optional"

-- a form (SMBus 3.0 section 6.5), as the keys `write`, `read` and `call` have it, and a hyphen for none
abbrev pub form_word : Option Form → List ℕ
form_word None = codes "-"
form_word (Some Zero) = codes "zero"
form_word (Some One) = codes "one"
form_word (Some Two) = codes "two"
form_word (Some Four) = codes "four"
form_word (Some Eight) = codes "eight"
form_word (Some Block) = codes "block"

-- whether there is a value for each page
abbrev pub paged_word : Bool → List ℕ
paged_word true = codes "yes"
paged_word false = codes "no"

-- the name of DIRECT, where a word Y counts as it stands or in two's complement
abbrev pub direct_name : Bool → List ℕ
direct_name true = codes "udirect:"
direct_name false = codes "direct:"

-- DIRECT with its coefficients m, b and R (PMBus Part II section 7.4), as a FORMAT has it
abbrev pub direct_word : Coefficients → List ℕ
direct_word d = direct_name d.unsigned ++ (signed_decimal d.m
    ++ (codes "," ++ (signed_decimal d.b ++ (codes "," ++ signed_decimal d.r))))

-- a format that VOUT_MODE can name, with its numbers, as a FORMAT has it
abbrev pub vout_word : VoutFormat → List ℕ
vout_word (formats.Unsigned exponent) = codes "ulinear16:" ++ signed_decimal exponent
vout_word (formats.Signed exponent) = codes "slinear16:" ++ signed_decimal exponent
vout_word (formats.Direct d) = direct_word d

-- a number format, with its numbers or its table, as a FORMAT has it
abbrev pub number_word : NumberFormat → List ℕ
number_word numbers.Linear11 = codes "linear11"
number_word (numbers.Linear11Fixed exponent) = codes "linear11:" ++ signed_decimal exponent
number_word (numbers.Word format) = vout_word format
number_word numbers.Half = codes "half"
number_word (numbers.Vid table) = codes "vid:" ++ table_name table

-- A kind, as the key `kind` has it. A number is written as the FORMAT that decodes its words.
abbrev pub kind_word : Kind → List ℕ
kind_word kinds.Raw = codes "raw"
kind_word (kinds.Number format) = number_word format
kind_word kinds.Vout = codes "vout"
kind_word kinds.VoutSigned = codes "vout_signed"
kind_word kinds.Status = codes "status"
kind_word kinds.Text = codes "text"

-- the coefficients of output voltages, where there are any
abbrev pub vout_direct_word : Option Coefficients → List ℕ
vout_direct_word None = codes "none"
vout_direct_word (Some d) = direct_word d

-- VID codes, and whether the profile tells tables of VID (those of types may lack the one that a mode names)
abbrev pub vid_words : Option VidParts → List ℕ
vid_words None = codes "VID codes: voltages are raw"
vid_words (Some tables) = codes "VID codes, by vid"

-- The format of output voltages (PMBus Part II section 8), where the profile tells these VID tables. Bit
-- 7 has words of its own, so that no mode is relative here.
abbrev pub format_words : Option VidParts → Result VoutFormat ModeFault → List ℕ
format_words vid (Ok (formats.Unsigned exponent)) = codes "linear, in steps of 2^" ++ signed_decimal exponent
format_words vid (Ok (formats.Signed exponent)) = codes "linear, in steps of 2^" ++ signed_decimal exponent
format_words vid (Ok (formats.Direct d)) = codes "DIRECT, with the coefficients of vout_direct"
format_words vid (Err Relative) = []
format_words vid (Err Vid) = vid_words vid
format_words vid (Err Ieee) = codes "IEEE half precision"
format_words vid (Err NoCoefficients) = codes "DIRECT, but without vout_direct: voltages are raw"

-- Bit 7 of VOUT_MODE is 1 where limits are factors of VOUT_COMMAND.
abbrev pub limit_words : ℕ → List ℕ
limit_words mode = if mode / 2 ^ 7 == 1 then codes "limits are factors of VOUT_COMMAND, " else []

-- a VOUT_MODE of a device: its limits by bit 7, and its format by bits 6:0
abbrev pub mode_words : DeviceParts → ℕ → List ℕ
mode_words device mode =
    limit_words mode ++ format_words device.vid (format_of (mode % 2 ^ 7) false device.vout_direct)

-- a byte's two digits
abbrev pub digits : ℕ → List ℕ
digits byte = encode_lower (byte ∷ [])

-- bytes, in the order on the wire
abbrev pub bytes_word : List ℕ → List ℕ
bytes_word [] = codes "empty"
bytes_word (byte ∷ bytes) = digits byte ++ flat_map digits bytes

-- addresses, with a space between two
abbrev pub addresses_word : List ℕ → List ℕ
addresses_word [] = codes "none"
addresses_word (address ∷ addresses) = digits address ++ flat_map (λ other. codes " " ++ digits other) addresses

-- of which page something is said
abbrev pub page_word : ℕ → List ℕ
page_word page = codes "page " ++ (decimal page ++ codes ": ")

-- of which type of VID codes something is said
abbrev pub type_word : ℕ → List ℕ
type_word number = codes "type " ++ (decimal number ++ codes ": ")
