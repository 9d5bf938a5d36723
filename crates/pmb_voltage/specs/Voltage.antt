-- The format that an output voltage is in (PMBus Part II 1.3 section 8), by what is known of VOUT_MODE and
-- PAGE, and by what the profile says of the device.
use Rattle.std.specs.Prelude.{ℕ, ◌/◌, ◌%◌, ◌^◌, ◌==◌, ◌&&◌, Bool, true, false, if◌then◌else◌, Option, Some, None}
use Rattle.std.specs.Prelude.{Result, Ok, Err, List, [], ◌∷◌, nat_eq, option_map, slice_get}
use Rattle.std.specs.List.{list_all, list_any}
use Rattle.pmb_coefficients.specs.Coefficients.{Coefficients}
use Rattle.pmb_vid.specs.declared.table.VidTable.{VidTable}
use Rattle.pmb_vid.specs.Names.{same_table}
use Rattle.pmb_value.specs.Vout.{format_of}
use Rattle.pmb_value.specs.declared.vout.ModeFault.{ModeFault}
use Rattle.pmb_value.specs.declared.vout.ModeFault.TheVariants as fault
use Rattle.pmb_value.specs.declared.vout.VoutFormat.{VoutFormat}
use Rattle.pmb_value.specs.declared.sign.Sign.{Sign}
use Rattle.pmb_value.specs.declared.sign.Sign.TheVariants.{Unsigned, Signed}
use Rattle.pmb_value.specs.declared.number_format.NumberFormat.{NumberFormat}
use Rattle.pmb_value.specs.declared.number_format.NumberFormat.TheVariants.{Word, Half}
use Rattle.pmb_value.specs.declared.number_format.NumberFormat.TheVariants as formats
use Rattle.pmb_command.specs.Parts.{DeviceParts, VidParts, OfPages, OfTypes}
use Rattle.pmb_note.specs.Paging.{all_pages}
use Rattle.pmb_keys.specs.VidView.{vid_parts}
use Rattle.pmb_unknown_start.specs.declared.mode.KnownMode.{KnownMode}
use Rattle.pmb_unknown_start.specs.declared.mode.KnownMode.TheVariants as known
use Rattle.pmb_voltage.specs.declared.voltage.NoVoltage.{NoVoltage}
use Rattle.pmb_voltage.specs.declared.voltage.NoVoltage.TheVariants.{Unknown, Page, Vid, Relative}
use Rattle.pmb_voltage.specs.declared.voltage.NoVoltage.TheVariants.{Coefficients as NoCoefficients}
use Rattle.pmb_voltage.specs.declared.voltage.VoltageFormat.{VoltageFormat}
use Rattle.pmb_voltage.specs.declared.voltage.Voltages.{Voltages}

-- what is known of VOUT_MODE and PAGE, the coefficients for DIRECT, and the VID tables
pub record VoltagesData : Type 0 where
  pub mode : KnownMode
  pub page : Option ℕ
  pub coefficients : Option Coefficients
  pub vid : Option VidParts

abbrev pub voltages_data : Voltages → VoltagesData
voltages_data v = record {
  mode = v.mode;
  page = v.page;
  coefficients = v.coefficients;
  vid = option_map (λ vid. vid_parts vid.now) v.vid;
}

-- those of a device
abbrev pub voltages_of : DeviceParts → KnownMode → Option ℕ → VoltagesData
voltages_of device mode page =
    record { mode = mode; page = page; coefficients = device.vout_direct; vid = device.vid }

-- ---- relative modes

-- VOUT_MARGIN_HIGH, VOUT_MARGIN_LOW, VOUT_OV_FAULT_LIMIT, VOUT_OV_WARN_LIMIT, VOUT_UV_WARN_LIMIT,
-- VOUT_UV_FAULT_LIMIT, POWER_GOOD_ON and POWER_GOOD_OFF, which may be factors of VOUT_COMMAND
abbrev pub is_relative_code : ℕ → Bool
is_relative_code code =
    list_any (nat_eq code) (0x25 ∷ 0x26 ∷ 0x40 ∷ 0x42 ∷ 0x43 ∷ 0x44 ∷ 0x5e ∷ 0x5f ∷ [])

-- they are where bit 7 of VOUT_MODE is 1
abbrev pub is_ratio : ℕ → ℕ → Bool
is_ratio mode code = (mode / 2 ^ 7 == 1) && is_relative_code code

-- ---- the VID table

-- that of a page, where there is one
abbrev pub on_page : Option VidTable → Result VidTable NoVoltage
on_page None = Err Page
on_page (Some table) = Ok table

-- of pages whose tables differ: none is known where PAGE is not, and all pages share none
abbrev pub of_page : List VidTable → Option ℕ → Result VidTable NoVoltage
of_page tables None = Err Unknown
of_page tables (Some page) = if nat_eq page all_pages then Err Page else on_page (slice_get tables page)

-- of pages, which may share one
abbrev pub page_table : List VidTable → Option ℕ → Result VidTable NoVoltage
page_table [] page = of_page [] page
page_table (first ∷ rest) page =
    if list_all (same_table first) rest then Ok first else of_page (first ∷ rest) page

-- of a type
abbrev pub type_table : Option (Option VidTable) → Result VidTable NoVoltage
type_table None = Err Vid
type_table (Some None) = Err Vid
type_table (Some (Some table)) = Ok table

-- Bits 4:0 of VOUT_MODE are the type.
abbrev pub vid_table : Option VidParts → ℕ → Option ℕ → Result VidTable NoVoltage
vid_table None mode page = Err Vid
vid_table (Some (OfPages tables)) mode page = page_table tables page
vid_table (Some (OfTypes tables)) mode page = type_table (slice_get tables (mode % 2 ^ 5))

abbrev pub in_table : Result VidTable NoVoltage → Result NumberFormat NoVoltage
in_table (Ok table) = Ok (formats.Vid table)
in_table (Err why) = Err why

-- ---- the format

abbrev pub is_signed : Sign → Bool
is_signed Unsigned = false
is_signed Signed = true

-- VID has no factors, and no corrections
abbrev pub vid_format : VoltagesData → ℕ → Bool → Sign → Result NumberFormat NoVoltage
vid_format v mode true sign = Err Relative
vid_format v mode false Signed = Err Vid
vid_format v mode false Unsigned = in_table (vid_table v.vid mode v.page)

-- what bits 6:0 of a mode name
abbrev pub named_format : VoltagesData → ℕ → Bool → Sign → Result VoutFormat ModeFault → Result NumberFormat NoVoltage
named_format v mode ratio sign (Ok format) = Ok (Word format)
named_format v mode ratio sign (Err fault.Relative) = Err Relative
named_format v mode ratio sign (Err fault.Vid) = vid_format v mode ratio sign
named_format v mode ratio sign (Err fault.Ieee) = Ok Half
named_format v mode ratio sign (Err fault.NoCoefficients) = Err NoCoefficients

-- a format, for factors or for volts
abbrev pub meaning : Bool → Result NumberFormat NoVoltage → Result VoltageFormat NoVoltage
meaning ratio (Ok number) = Ok (record { number = number; is_ratio = ratio })
meaning ratio (Err why) = Err why

-- under a mode: bit 7 says only whether some commands are factors
abbrev pub format_under : VoltagesData → ℕ → ℕ → Sign → Result VoltageFormat NoVoltage
format_under v mode code sign =
    meaning (is_ratio mode code)
    (named_format v mode (is_ratio mode code) sign (format_of (mode % 2 ^ 7) (is_signed sign) v.coefficients))

-- .. as far as it is known
abbrev pub format_by : VoltagesData → KnownMode → ℕ → Sign → Result VoltageFormat NoVoltage
format_by v (known.Known mode) code sign = format_under v mode code sign
format_by v known.Unknown code sign = Err Unknown
format_by v known.NoPage code sign = Err Page

-- the format of a command's words
abbrev pub voltage_format : VoltagesData → ℕ → Sign → Result VoltageFormat NoVoltage
voltage_format v code sign = format_by v v.mode code sign

-- ---- whether it is known

abbrev pub is_unknown_format : Result VoltageFormat NoVoltage → Bool
is_unknown_format (Ok format) = false
is_unknown_format (Err Unknown) = true
is_unknown_format (Err Page) = false
is_unknown_format (Err Vid) = false
is_unknown_format (Err Relative) = false
is_unknown_format (Err NoCoefficients) = false

abbrev pub vout_command_code : ℕ
vout_command_code = 0x21

-- The format of output voltages is not known: that of VOUT_COMMAND, which is never a factor.
abbrev pub is_open : VoltagesData → Bool
is_open v = is_unknown_format (voltage_format v vout_command_code Unsigned)
