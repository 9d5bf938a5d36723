-- Where the format of some command is not known, neither is that of VOUT_COMMAND. For the law
-- `unknown_formats_are_open`. Under a mode that is known, it is a VID table that is not, and that goes by
-- neither code nor sign.
use Rattle.std.proofs.Common.{◌≡◌, ℕ, ◌/◌, ◌%◌, ◌^◌, ◌==◌, ◌&&◌, Bool, true, false, Option, Some, None, Result, Ok, Err}
use Rattle.std.proofs.Common.{refl, sym, ap, ◌∙◌, subst}
use Rattle.pmb_coefficients.specs.Coefficients.{Coefficients}
use Rattle.pmb_unknown_start.specs.declared.mode.KnownMode.{KnownMode}
use Rattle.pmb_unknown_start.specs.declared.mode.KnownMode.TheVariants as known
use Rattle.pmb_value.specs.Vout.{format_of}
use Rattle.pmb_value.specs.declared.number_format.NumberFormat.{NumberFormat}
use Rattle.pmb_value.specs.declared.sign.Sign.{Sign}
use Rattle.pmb_value.specs.declared.sign.Sign.TheVariants.{Unsigned, Signed}
use Rattle.pmb_value.specs.declared.vout.ModeFault.{ModeFault}
use Rattle.pmb_value.specs.declared.vout.ModeFault.TheVariants as fault
use Rattle.pmb_value.specs.declared.vout.VoutFormat.{VoutFormat}
use Rattle.pmb_vid.specs.declared.table.VidTable.{VidTable}
use Rattle.pmb_voltage.specs.declared.voltage.NoVoltage.{NoVoltage}
use Rattle.pmb_voltage.specs.declared.voltage.NoVoltage.TheVariants.{Unknown}
use Rattle.pmb_voltage.specs.declared.voltage.VoltageFormat.{VoltageFormat}
use Rattle.pmb_voltage.specs.Laws.{IsOpenIfUnknown}
use Rattle.pmb_voltage.specs.Voltage.{VoltagesData, format_by, format_under, in_table, is_open, is_ratio, is_signed}
use Rattle.pmb_voltage.specs.Voltage.{is_unknown_format, meaning, named_format, vid_format, vid_table, vout_command_code}

-- a format that has a meaning is known
of_meaning : (ratio : Bool) (number : Result NumberFormat NoVoltage) → meaning ratio number ≡ Err Unknown
    → number ≡ Err Unknown
of_meaning ratio (Ok number) is = absurd (cc is)
of_meaning ratio (Err why) is = ap Err (cc is)

module _ (v : VoltagesData) (mode : ℕ) where
  -- VID alone may have no format that is known, and that of no factor, unsigned
  record IsTable (ratio : Bool) (sign : Sign) : Type 0 where
    unsigned : sign ≡ Unsigned
    table : in_table (vid_table v.vid mode v.page) ≡ Err Unknown

  of_vid : (ratio : Bool) (sign : Sign) → vid_format v mode ratio sign ≡ Err Unknown → IsTable ratio sign
  of_vid true sign is = absurd (cc is)
  of_vid false Signed is = absurd (cc is)
  of_vid false Unsigned is = record { unsigned = refl; table = is }

  of_named : (ratio : Bool) (sign : Sign) (named : Result VoutFormat ModeFault)
      → named_format v mode ratio sign named ≡ Err Unknown
      → (named ≡ Err fault.Vid) × IsTable ratio sign
  of_named ratio sign (Ok format) is = absurd (cc is)
  of_named ratio sign (Err fault.Relative) is = absurd (cc is)
  of_named ratio sign (Err fault.Vid) is = (refl, of_vid ratio sign is)
  of_named ratio sign (Err fault.Ieee) is = absurd (cc is)
  of_named ratio sign (Err fault.NoCoefficients) is = absurd (cc is)

  no_factor : (b : Bool) → (b && false) ≡ false
  no_factor true = refl
  no_factor false = refl

  of_command : (ratio : Bool) (named : Result VoutFormat ModeFault) → ratio ≡ false → named ≡ Err fault.Vid
      → in_table (vid_table v.vid mode v.page) ≡ Err Unknown
      → is_unknown_format (meaning ratio (named_format v mode ratio Unsigned named)) ≡ true
  of_command ratio named none vid table =
      ap (λ (b : Bool). is_unknown_format (meaning b (named_format v mode b Unsigned named))) none
      ∙ ap (λ (r : Result VoutFormat ModeFault). is_unknown_format (meaning false (named_format v mode false Unsigned r)))
      vid
      ∙ ap (λ (r : Result NumberFormat NoVoltage). is_unknown_format (meaning false r)) table

  abbrev named_by : Sign → Result VoutFormat ModeFault
  named_by sign = format_of (mode % 2 ^ 7) (is_signed sign) v.coefficients

  opened : (code : ℕ) (sign : Sign) → format_under v mode code sign ≡ Err Unknown
      → is_unknown_format (format_under v mode vout_command_code Unsigned) ≡ true
  opened code sign is =
      let ratio : Bool = is_ratio mode code in
      let parts = of_named ratio sign (named_by sign)
      (of_meaning ratio (named_format v mode ratio sign (named_by sign)) is) in
      of_command (is_ratio mode vout_command_code) (named_by Unsigned) (no_factor (mode / 2 ^ 7 == 1))
      (subst (λ (s : Sign). named_by s ≡ Err fault.Vid) parts.1.unsigned parts.0) parts.1.table

by_mode : (v : VoltagesData) (k : KnownMode) (code : ℕ) (sign : Sign) → format_by v k code sign ≡ Err Unknown
    → is_unknown_format (format_by v k vout_command_code Unsigned) ≡ true
by_mode v (known.Known mode) code sign is = opened v mode code sign is
by_mode v known.Unknown code sign is = refl
by_mode v known.NoPage code sign is = absurd (cc is)

pub open_if_unknown : (v : VoltagesData) → IsOpenIfUnknown v
open_if_unknown v code sign is = by_mode v v.mode code sign is
