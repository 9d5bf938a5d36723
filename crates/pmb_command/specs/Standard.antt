-- What holds of the standard commands.
use Rattle.std.specs.Prelude.{◌≡◌, ℕ, ◌<◌, Bool, true, false, IfSome, Option, None, Some, List, [], ◌∷◌, length, nat_eq}
use Rattle.pmb_value.specs.declared.number_format.NumberFormat.{NumberFormat}
use Rattle.pmb_value.specs.declared.number_format.NumberFormat.TheVariants as formats
use Rattle.pmb_command.specs.declared.form.Form.{Form}
use Rattle.pmb_command.specs.declared.form.Form.TheVariants.{Zero, One, Two, Four, Eight, Block}
use Rattle.pmb_command.specs.declared.entry.Kind.{Kind}
use Rattle.pmb_command.specs.declared.entry.Kind.TheVariants.{Raw, Number, Vout, VoutSigned, Status, Text}
use Rattle.pmb_command.specs.Entry.{EntryParts}
use Rattle.pmb_command.specs.Bus.{IsEntry, IsUnitOf}
use Rattle.pmb_command.specs.Commands.{code_of_name, is_among, standard_entry}
use Rattle.pmb_command.specs.Parts.{CommandParts}
use Rattle.pmb_command.specs.StatusBits.{BitNames}
use Rattle.pmb_command.specs.Units.{standard_unit}

-- LINEAR11, with any exponent
abbrev pub is_linear11 : NumberFormat → Bool
is_linear11 formats.Linear11 = true
is_linear11 (formats.Linear11Fixed exponent) = false
is_linear11 (formats.Word format) = false
is_linear11 formats.Half = false
is_linear11 (formats.Vid table) = false

-- whether a kind is none that a device's data sheet completes: a number is in LINEAR11, with any
-- exponent
abbrev pub is_general : Kind → Bool
is_general Raw = true
is_general (Number format) = is_linear11 format
is_general Vout = true
is_general VoutSigned = true
is_general Status = true
is_general Text = true

-- The standard entry of a code: it has the code, a name that no other one has, is a command that a
-- device may have, its kind is none that a device's data sheet completes, and a unit is that of numbers.
pub record IsStandardAt (code : ℕ) (e : EntryParts) : Type 0 where
  pub same_code : e.code ≡ code
  pub byte : code < 256
  pub entry : IsEntry e
  pub general : is_general e.kind ≡ true
  pub unit : IfSome (standard_unit code) (IsUnitOf e.kind)
  pub by_name : code_of_name e.name ≡ Some code

-- a standard command of a device, of which the profile says nothing
abbrev pub standard_command : EntryParts → CommandParts
standard_command e = record { entry = e; initial = None; unit = standard_unit e.code; bits = []; phased = false }

-- The code has a standard entry with the name.
pub record IsNamed (name : List ℕ) (code : ℕ) : Type 0 where
  pub byte : code < 256
  pub entry : EntryParts
  pub has : standard_entry code ≡ Some entry
  pub same_name : entry.name ≡ name

-- ---- status commands

-- begin: written by tools/commands from docs/profiles.md

-- the status commands whose bits have no names here: STATUS_OTHER, STATUS_MFR_SPECIFIC, STATUS_FANS_3_4
abbrev pub without_bit_names : List ℕ
without_bit_names = 0x7f ∷ 0x80 ∷ 0x82 ∷ []

-- end

-- there is a name, or a gap, for each bit of data in a form: eight for each byte
abbrev pub are_bits_of : Option Form → BitNames → Bool
are_bits_of None names = false
are_bits_of (Some Zero) names = false
are_bits_of (Some One) names = nat_eq (length names) 8
are_bits_of (Some Two) names = nat_eq (length names) 16
are_bits_of (Some Four) names = nat_eq (length names) 32
are_bits_of (Some Eight) names = nat_eq (length names) 64
are_bits_of (Some Block) names = false

-- The code is that of a standard status command, and not of one without names.
pub record HasNamedBits (code : ℕ) : Type 0 where
  pub entry : EntryParts
  pub has : standard_entry code ≡ Some entry
  pub status : entry.kind ≡ Status
  pub named : is_among without_bit_names code ≡ false
