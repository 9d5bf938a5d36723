-- Where less is known of VOUT_MODE and PAGE, the format of an output voltage is not known, or it is the
-- same. For the law `known_formats_are_the_same`. PAGE matters only where the VID tables of the pages
-- differ, and there no format is known without it.
use Rattle.std.proofs.Common.{◌≡◌, ◌⊎◌, inl, inr, ℕ, ◌%◌, ◌^◌, Bool, true, false, if◌then◌else◌, Option, Some, None}
use Rattle.std.proofs.Common.{Result, Ok, Err, List, [], ◌∷◌, refl, sym, ap, subst}
use Rattle.std.specs.List.{list_all}
use Rattle.pmb_command.specs.Parts.{DeviceParts, VidParts, OfPages, OfTypes}
use Rattle.pmb_unknown_start.specs.Certain.{StaysKnown}
use Rattle.pmb_unknown_start.specs.declared.mode.KnownMode.{KnownMode}
use Rattle.pmb_unknown_start.specs.declared.mode.KnownMode.TheVariants as known
use Rattle.pmb_value.specs.Vout.{format_of}
use Rattle.pmb_value.specs.declared.number_format.NumberFormat.{NumberFormat}
use Rattle.pmb_value.specs.declared.sign.Sign.{Sign}
use Rattle.pmb_value.specs.declared.sign.Sign.TheVariants.{Unsigned, Signed}
use Rattle.pmb_value.specs.declared.vout.ModeFault.{ModeFault}
use Rattle.pmb_value.specs.declared.vout.ModeFault.TheVariants as fault
use Rattle.pmb_value.specs.declared.vout.VoutFormat.{VoutFormat}
use Rattle.pmb_vid.specs.declared.table.VidTable.{VidTable}
use Rattle.pmb_vid.specs.Names.{same_table}
use Rattle.pmb_voltage.specs.declared.voltage.NoVoltage.{NoVoltage}
use Rattle.pmb_voltage.specs.declared.voltage.NoVoltage.TheVariants.{Unknown}
use Rattle.pmb_voltage.specs.Laws.{KnowsNoOther}
use Rattle.pmb_voltage.specs.Voltage.{VoltagesData, format_under, in_table, is_ratio, is_signed, meaning, named_format}
use Rattle.pmb_voltage.specs.Voltage.{of_page, page_table, vid_format, vid_table, voltage_format, voltages_of}

-- one outcome is that nothing is known, or it is the other
abbrev Knows : {A : Type 0} → Result A NoVoltage → Result A NoVoltage → Type 0
Knows one other = (one ≡ Err Unknown) ⊎ (one ≡ other)

-- .. also where a test takes something else
knows_either : {A : Type 0} (test : Bool) (first one other : Result A NoVoltage) → Knows one other
    → Knows (if test then first else one) (if test then first else other)
knows_either true first one other knows = inr refl
knows_either false first one other knows = knows

module _ (page whole : Option ℕ) (told : (number : ℕ) → page ≡ Some number → whole ≡ Some number) where
  -- ---- VID tables

  knows_page : (tables : List VidTable) (p : Option ℕ) → page ≡ p → Knows (of_page tables p) (of_page tables whole)
  knows_page tables None is = inl refl
  knows_page tables (Some number) is = inr (ap (of_page tables) (sym (told number is)))

  knows_pages : (tables : List VidTable) → Knows (page_table tables page) (page_table tables whole)
  knows_pages [] = knows_page [] page refl
  knows_pages (first ∷ rest) =
      knows_either (list_all (same_table first) rest) (Ok first) (of_page (first ∷ rest) page)
      (of_page (first ∷ rest) whole) (knows_page (first ∷ rest) page refl)

  knows_table : (vid : Option VidParts) (mode : ℕ) → Knows (vid_table vid mode page) (vid_table vid mode whole)
  knows_table None mode = inr refl
  knows_table (Some (OfPages tables)) mode = knows_pages tables
  knows_table (Some (OfTypes tables)) mode = inr refl

  knows_in_table : (one other : Result VidTable NoVoltage) → Knows one other → Knows (in_table one) (in_table other)
  knows_in_table one other (inl is) = inl (ap in_table is)
  knows_in_table one other (inr same) = inr (ap in_table same)

  -- ---- formats

  knows_meaning : (ratio : Bool) (one other : Result NumberFormat NoVoltage) → Knows one other
      → Knows (meaning ratio one) (meaning ratio other)
  knows_meaning ratio one other (inl is) = inl (ap (meaning ratio) is)
  knows_meaning ratio one other (inr same) = inr (ap (meaning ratio) same)

  module _ (device : DeviceParts) (state : KnownMode) where
    abbrev by_page : Option ℕ → VoltagesData
    by_page p = voltages_of device state p

    knows_vid : (mode : ℕ) (ratio : Bool) (sign : Sign)
        → Knows (vid_format (by_page page) mode ratio sign) (vid_format (by_page whole) mode ratio sign)
    knows_vid mode true sign = inr refl
    knows_vid mode false Signed = inr refl
    knows_vid mode false Unsigned =
        knows_in_table (vid_table device.vid mode page) (vid_table device.vid mode whole) (knows_table device.vid mode)

    knows_named : (mode : ℕ) (ratio : Bool) (sign : Sign) (named : Result VoutFormat ModeFault)
        → Knows (named_format (by_page page) mode ratio sign named) (named_format (by_page whole) mode ratio sign named)
    knows_named mode ratio sign (Ok format) = inr refl
    knows_named mode ratio sign (Err fault.Relative) = inr refl
    knows_named mode ratio sign (Err fault.Vid) = knows_vid mode ratio sign
    knows_named mode ratio sign (Err fault.Ieee) = inr refl
    knows_named mode ratio sign (Err fault.NoCoefficients) = inr refl

    knows_under : (mode code : ℕ) (sign : Sign)
        → Knows (format_under (by_page page) mode code sign) (format_under (by_page whole) mode code sign)
    knows_under mode code sign =
        let named : Result VoutFormat ModeFault = format_of (mode % 2 ^ 7) (is_signed sign) device.vout_direct in
        let ratio : Bool = is_ratio mode code in
        knows_meaning ratio (named_format (by_page page) mode ratio sign named)
        (named_format (by_page whole) mode ratio sign named) (knows_named mode ratio sign named)

  -- ---- what is known of VOUT_MODE

  module _ (device : DeviceParts) (code : ℕ) (sign : Sign) where
    abbrev in_piece : KnownMode → Type 0
    in_piece mode = (more : KnownMode) → StaysKnown mode more
        → Knows (voltage_format (voltages_of device mode page) code sign)
        (voltage_format (voltages_of device more whole) code sign)

    knows_mode : (mode : KnownMode) → in_piece mode
    knows_mode (known.Known mode) more stays =
        subst (λ (k : KnownMode). Knows (voltage_format (voltages_of device (known.Known mode) page) code sign)
        (voltage_format (voltages_of device k whole) code sign))
        (sym stays) (knows_under device (known.Known mode) mode code sign)
    knows_mode known.Unknown more stays = inl refl
    knows_mode known.NoPage more stays =
        subst (λ (k : KnownMode). Knows (voltage_format (voltages_of device known.NoPage page) code sign)
        (voltage_format (voltages_of device k whole) code sign))
        (sym stays) (inr refl)

pub knows_no_other : (device : DeviceParts) → KnowsNoOther device
knows_no_other device mode more page whole code sign stays told =
    knows_mode page whole told device code sign mode more stays
