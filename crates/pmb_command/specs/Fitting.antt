-- Whether the forms, the kind and the pages of a command go together.
use Rattle.std.specs.Prelude.{ℕ, Bool, true, false, not, if◌then◌else◌, ◌&&◌, ◌||◌, is_some, Option}
use Rattle.std.specs.Prelude.{Some, None, [], ◌∷◌, nat_eq, nat_le}
use Rattle.std.specs.List.{list_any}
use Rattle.pmb_command.specs.declared.form.Form.{Form}
use Rattle.pmb_command.specs.declared.form.Form.TheVariants.{Zero, One, Two, Four, Eight, Block}
use Rattle.pmb_command.specs.declared.form.Shape.{Shape}
use Rattle.pmb_command.specs.declared.entry.Kind.{Kind}
use Rattle.pmb_command.specs.declared.entry.Kind.TheVariants.{Raw, Number, Vout, VoutSigned, Status, Text}
use Rattle.pmb_command.specs.Entry.{EntryParts}
use Rattle.pmb_command.specs.Commands.{standard_entry}

-- a number of each form, by which forms are told apart
abbrev pub form_number : Form → ℕ
form_number Zero = 0
form_number One = 1
form_number Two = 2
form_number Four = 3
form_number Eight = 4
form_number Block = 5

-- the two forms are one
abbrev pub same_form : Form → Form → Bool
same_form form other = nat_eq (form_number form) (form_number other)

-- the command can be written, read or called
abbrev pub has_form : Shape → Bool
has_form s = is_some s.write || (is_some s.read || is_some s.call)

-- a command is read in the form in which it is written, but for one that is written without data
abbrev pub ways_agree : Option Form → Option Form → Bool
ways_agree None read = true
ways_agree (Some write) None = true
ways_agree (Some write) (Some read) = same_form write Zero || same_form write read

-- what is read has data
abbrev pub reads_data : Option Form → Bool
reads_data None = true
reads_data (Some read) = not (same_form read Zero)

-- a call sends two bytes or a block, and is answered by as many or a block (Process Call, Block
-- Write-Block Read Process Call)
abbrev pub calls_fit : Option Form → Bool
calls_fit None = true
calls_fit (Some call) = same_form call Two || same_form call Block

-- PAGE, CLEAR_FAULTS, VOUT_MODE, COEFFICIENTS and STATUS_CML, each of whose forms is the standard's
-- or none
abbrev pub is_fixed : ℕ → Bool
is_fixed code = list_any (nat_eq code) (0x00 ∷ 0x03 ∷ 0x20 ∷ 0x30 ∷ 0x7e ∷ [])

-- there is no form, or it is the standard's
abbrev pub is_kept : Option Form → Option Form → Bool
is_kept None standard = true
is_kept (Some form) None = false
is_kept (Some form) (Some standard) = same_form form standard

-- each form is the standard's, or there is none
abbrev pub are_kept : Shape → Option EntryParts → Bool
are_kept s None = false
are_kept s (Some e) = is_kept s.write e.shape.write && (is_kept s.read e.shape.read && is_kept s.call e.shape.call)

-- PAGE, CLEAR_FAULTS, VOUT_MODE and COEFFICIENTS, which are no numbers, no status bits and no text
abbrev pub is_always_raw : ℕ → Bool
is_always_raw code = list_any (nat_eq code) (0x00 ∷ 0x03 ∷ 0x20 ∷ 0x30 ∷ [])

-- the data are bytes of which nothing more is known
abbrev pub is_raw : Kind → Bool
is_raw Raw = true
is_raw (Number format) = false
is_raw Vout = false
is_raw VoutSigned = false
is_raw Status = false
is_raw Text = false

-- the data are status bits
abbrev pub is_status_kind : Kind → Bool
is_status_kind Raw = false
is_status_kind (Number format) = false
is_status_kind Vout = false
is_status_kind VoutSigned = false
is_status_kind Status = true
is_status_kind Text = false

-- the data are numbers
abbrev pub is_number : Kind → Bool
is_number Raw = false
is_number (Number format) = true
is_number Vout = true
is_number VoutSigned = true
is_number Status = false
is_number Text = false

-- the form of a command's value: in which it is read, or else written
abbrev pub value_form : Shape → Option Form
value_form s = if is_some s.read then s.read else s.write

-- there is a form, and it is this one
abbrev pub is_form : Form → Option Form → Bool
is_form form None = false
is_form form (Some other) = same_form form other

-- numbers have two bytes, status registers one or two
abbrev pub kind_fits : Kind → Option Form → Bool
kind_fits Raw form = true
kind_fits (Number format) form = is_form Two form
kind_fits Vout form = is_form Two form
kind_fits VoutSigned form = is_form Two form
kind_fits Status form = is_form One form || is_form Two form
kind_fits Text form = true

-- how many bits a status register of a form has: 8 in one byte, and 16 in two
abbrev pub bit_count : Option Form → ℕ
bit_count form = if is_form One form then 8 else 16

-- the forms, the kind and the pages of a command go together
abbrev pub is_fitting : EntryParts → Bool
is_fitting e =
    has_form e.shape
    && (ways_agree e.shape.write e.shape.read
    && (reads_data e.shape.read
    && (calls_fit e.shape.call
    && ((not (is_fixed e.code) || are_kept e.shape (standard_entry e.code))
    && ((not (is_always_raw e.code) || is_raw e.kind)
    && (not (nat_eq e.code 0x00 && e.paged)
    && kind_fits e.kind (value_form e.shape)))))))

-- the form of a command's register, which has a value to begin with: read, or written with data
abbrev pub register_form : Shape → Option Form
register_form s = if is_form Zero (value_form s) then None else value_form s

-- a register of the form has that many bytes
abbrev pub is_length : Option Form → ℕ → Bool
is_length None n = false
is_length (Some Zero) n = false
is_length (Some One) n = nat_eq n 1
is_length (Some Two) n = nat_eq n 2
is_length (Some Four) n = nat_eq n 4
is_length (Some Eight) n = nat_eq n 8
is_length (Some Block) n = nat_le n 255
