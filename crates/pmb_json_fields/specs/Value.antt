-- What an object says of a command's data: a number with its unit, why there is none, the bits of a
-- status register, or a text.
use Rattle.std.specs.Prelude.{ℕ, zero, suc, ◌+◌, ◌*◌, Bool, true, false, if◌then◌else◌, Option, Some, None, Result}
use Rattle.std.specs.Prelude.{Ok, Err, List, [], ◌∷◌, ◌++◌, codes, map}
use Rattle.pmb_quantity.specs.QuantityText.{spelling}
use Rattle.pmb_decimal.specs.Decimal.{rounded_text}
use Rattle.pmb_quantity.specs.Fraction.{Fraction}
use Rattle.pmb_value.specs.WordFault.{value_in}
use Rattle.pmb_value.specs.declared.number_format.NumberFormat.{NumberFormat}
use Rattle.pmb_value.specs.declared.number_format.WordFault.{WordFault}
use Rattle.pmb_value.specs.declared.number_format.WordFault.TheVariants.{NotANumber, NoCode, Off}
use Rattle.pmb_value.specs.declared.sign.Sign.{Sign}
use Rattle.pmb_value.specs.declared.sign.Sign.TheVariants.{Unsigned, Signed}
use Rattle.pmb_voltage.specs.Voltage.{VoltagesData, voltage_format}
use Rattle.pmb_voltage.specs.declared.voltage.NoVoltage.{NoVoltage}
use Rattle.pmb_voltage.specs.declared.voltage.NoVoltage.TheVariants.{Unknown, Page, Vid, Relative, Coefficients}
use Rattle.pmb_voltage.specs.declared.voltage.VoltageFormat.{VoltageFormat}
use Rattle.pmb_command.specs.declared.entry.Kind.{Kind}
use Rattle.pmb_command.specs.declared.entry.Kind.TheVariants.{Raw, Number, Vout, VoutSigned, Status, Text}
use Rattle.pmb_command.specs.declared.form.Form.{Form}
use Rattle.pmb_command.specs.declared.form.Shape.{Shape}
use Rattle.pmb_command.specs.Parts.{CommandParts}
use Rattle.pmb_command_data.specs.Bits.{bit_text_in}
use Rattle.pmb_command_data.specs.Text.{text_of}
use Rattle.pmb_note.specs.Note.{is_set, named_bit}
use Rattle.pmb_json_text.specs.Json.{number, string}
use Rattle.pmb_json_text.specs.Member.{Member, named, array_of}
use Rattle.pmb_json_fields.specs.declared.access.Access.{Access}
use Rattle.pmb_json_fields.specs.declared.access.Access.TheVariants.{Read, Write}
use Rattle.pmb_json_fields.specs.declared.basis.Basis.{Basis}
use Rattle.pmb_json_fields.specs.declared.basis.Basis.TheVariants.{Told, Assumed}

-- ---- numbers

-- the word of two bytes, the low one first, by what is said of it; nothing for another number of bytes
abbrev pub of_word : (ℕ → List Member) → List ℕ → List Member
of_word members [] = []
of_word members (a ∷ []) = []
of_word members (low ∷ high ∷ []) = members (low + 256 * high)
of_word members (a ∷ b ∷ c ∷ bytes) = []

-- why a word has no value
abbrev pub raw_members : List ℕ → List Member
raw_members why = named (codes "raw") (string why) ∷ []

abbrev pub word_fault_name : WordFault → List ℕ
word_fault_name NotANumber = codes "nan"
word_fault_name NoCode = codes "code"
word_fault_name Off = codes "off"

-- an exact value, and the nearest number with at most that many digits after the point
abbrev pub quantity_members : ℕ → Fraction → List Member
quantity_members digits quantity =
    named (codes "value") (string (spelling quantity))
    ∷ named (codes "number") (number (rounded_text digits quantity)) ∷ []

-- the unit of a command's numbers, where they have one
abbrev pub unit_members : Option (List ℕ) → List Member
unit_members None = []
unit_members (Some unit) = named (codes "unit") (string unit) ∷ []

abbrev pub value_members : ℕ → Option (List ℕ) → Result Fraction WordFault → List Member
value_members digits unit (Ok quantity) = quantity_members digits quantity ++ unit_members unit
value_members digits unit (Err fault) = raw_members (word_fault_name fault)

-- a word in a format
abbrev pub number_members : ℕ → Option (List ℕ) → NumberFormat → ℕ → List Member
number_members digits unit format word = value_members digits unit (value_in format word)

-- ---- output voltages

abbrev pub no_voltage_name : NoVoltage → List ℕ
no_voltage_name Unknown = codes "unknown"
no_voltage_name Page = codes "page"
no_voltage_name Vid = codes "vid"
no_voltage_name Relative = codes "relative"
no_voltage_name Coefficients = codes "coefficients"

-- what a VOUT_MODE rests on, by whether it is assumed
abbrev pub basis_of : Bool → Basis
basis_of true = Assumed
basis_of false = Told

-- the mark of a value whose VOUT_MODE is assumed
abbrev pub basis_members : Basis → List Member
basis_members Told = []
basis_members Assumed = named (codes "mode") (string (codes "assumed")) ∷ []

-- a factor of VOUT_COMMAND is no voltage, so it is told by another name
abbrev pub voltage_members : ℕ → Bool → Fraction → List Member
voltage_members digits true quantity = named (codes "ratio") (string (spelling quantity)) ∷ []
voltage_members digits false quantity = quantity_members digits quantity

-- .. and has no unit
abbrev pub voltage_unit : Bool → Option (List ℕ) → List Member
voltage_unit true unit = []
voltage_unit false unit = unit_members unit

abbrev pub marked_members : ℕ → Option (List ℕ) → Bool → Basis → Result Fraction WordFault → List Member
marked_members digits unit ratio basis (Ok quantity) =
    voltage_members digits ratio quantity ++ (basis_members basis ++ voltage_unit ratio unit)
marked_members digits unit ratio basis (Err fault) = raw_members (word_fault_name fault)

abbrev pub format_members : ℕ → Option (List ℕ) → Basis → Result VoltageFormat NoVoltage → ℕ → List Member
format_members digits unit basis (Ok format) word =
    marked_members digits unit format.is_ratio basis (value_in format.number word)
format_members digits unit basis (Err why) word = raw_members (no_voltage_name why)

-- a word of a command, whose words are signed or not
abbrev pub vout_members : ℕ → VoltagesData → Basis → CommandParts → Sign → ℕ → List Member
vout_members digits voltages basis c sign word =
    format_members digits c.unit basis (voltage_format voltages c.entry.code sign) word

-- ---- status bits

-- the name of a bit of a command's status register, where it is set: the profile's, or else the standard's
abbrev pub set_bit : CommandParts → ℕ → ℕ → List (List ℕ)
set_bit c value bit = if is_set value bit then named_bit (bit_text_in c.bits c.entry.code bit) bit ∷ [] else []

-- the names of the set bits among the lowest, that many, from the highest down
abbrev pub set_bits : CommandParts → ℕ → ℕ → List (List ℕ)
set_bits c value zero = []
set_bits c value (suc bit) = set_bit c value bit ++ set_bits c value bit

-- a write to a register clears its set bits
abbrev pub bits_key : Access → List ℕ
bits_key Read = codes "bits"
bits_key Write = codes "clears"

abbrev pub bits_members : Access → List (List ℕ) → List Member
bits_members access names = named (bits_key access) (array_of (map string names)) ∷ []

-- a register of one byte, or of two, the low one first; nothing for another number of bytes
abbrev pub status_members : Access → CommandParts → List ℕ → List Member
status_members access c [] = []
status_members access c (byte ∷ []) = bits_members access (set_bits c byte 8)
status_members access c (low ∷ high ∷ []) = bits_members access (set_bits c (low + 256 * high) 16)
status_members access c (a ∷ b ∷ d ∷ bytes) = []

-- ---- texts

-- the form in which data are read or written
abbrev pub form_of : Access → Shape → Option Form
form_of Read shape = shape.read
form_of Write shape = shape.write

-- data as a text, where they are one
abbrev pub text_members : Option (List ℕ) → List Member
text_members None = []
text_members (Some text) = named (codes "text") (string text) ∷ []

-- ---- data of a command

-- by the command's kind
abbrev pub kind_members : ℕ → Access → VoltagesData → Basis → CommandParts → Kind → List ℕ → List Member
kind_members digits access voltages basis c Raw bytes = []
kind_members digits access voltages basis c (Number format) bytes = of_word (number_members digits c.unit format) bytes
kind_members digits access voltages basis c Vout bytes = of_word (vout_members digits voltages basis c Unsigned) bytes
kind_members digits access voltages basis c VoutSigned bytes =
    of_word (vout_members digits voltages basis c Signed) bytes
kind_members digits access voltages basis c Status bytes = status_members access c bytes
kind_members digits access voltages basis c Text bytes = []

-- .. and as a text
abbrev pub data_members : ℕ → Access → VoltagesData → Basis → CommandParts → List ℕ → List Member
data_members digits access voltages basis c bytes =
    kind_members digits access voltages basis c c.entry.kind bytes
    ++ text_members (text_of c.entry (form_of access c.entry.shape) bytes)
