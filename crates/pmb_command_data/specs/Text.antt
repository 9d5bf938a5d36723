-- Data that are a text (PMBus Part II 1.3 section 22.2).
use Rattle.std.specs.Prelude.{ℕ, Bool, true, false, ◌&&◌, ◌||◌, if◌then◌else◌, nat_eq, Option, Some, None, List, []}
use Rattle.std.specs.Prelude.{◌∷◌}
use Rattle.std.specs.List.{list_all, list_any}
use Rattle.pmb_command.specs.declared.entry.Kind.{Kind}
use Rattle.pmb_command.specs.declared.entry.Kind.TheVariants.{Raw, Number, Vout, VoutSigned, Status, Text}
use Rattle.pmb_command.specs.declared.form.Form.{Form}
use Rattle.pmb_command.specs.declared.form.Form.TheVariants.{Zero, One, Two, Four, Eight, Block}
use Rattle.pmb_command.specs.Entry.{EntryParts}
use Rattle.pmb_command.specs.Names.{is_printable}
use Rattle.pmb_command_data.specs.Standard.{is_plain_standard}

-- the standard's commands whose block is a text: MFR_ID, MFR_MODEL, MFR_REVISION, MFR_LOCATION, MFR_DATE, MFR_SERIAL,
-- IC_DEVICE_ID, IC_DEVICE_REV
abbrev pub text_codes : List ℕ
text_codes = 0x99 ∷ 0x9a ∷ 0x9b ∷ 0x9c ∷ 0x9d ∷ 0x9e ∷ 0xad ∷ 0xae ∷ []

abbrev pub is_text_code : ℕ → Bool
is_text_code code = list_any (nat_eq code) text_codes

abbrev pub is_text_kind : Kind → Bool
is_text_kind Raw = false
is_text_kind (Number format) = false
is_text_kind Vout = false
is_text_kind VoutSigned = false
is_text_kind Status = false
is_text_kind Text = true

abbrev pub is_block : Option Form → Bool
is_block None = false
is_block (Some Zero) = false
is_block (Some One) = false
is_block (Some Two) = false
is_block (Some Four) = false
is_block (Some Eight) = false
is_block (Some Block) = true

-- whether data of a command are characters, where they go in a form
abbrev pub has_text : EntryParts → Option Form → Bool
has_text e form = is_text_kind e.kind || (is_text_code e.code && (is_block form && is_plain_standard e))

-- the data as a text, where they are characters and all of these can be printed
abbrev pub text_of : EntryParts → Option Form → List ℕ → Option (List ℕ)
text_of e form bytes = if has_text e form && list_all is_printable bytes then Some bytes else None
