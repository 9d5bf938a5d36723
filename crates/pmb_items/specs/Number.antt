-- The number that data are, or why they are none.
use Rattle.std.specs.Prelude.{ℕ, ◌+◌, ◌*◌, pos, Bool, true, false, Result, Ok, Err, List, [], ◌∷◌}
use Rattle.pmb_command.specs.declared.entry.Kind.{Kind}
use Rattle.pmb_command.specs.declared.entry.Kind.TheVariants.{Raw, Number, Vout, VoutSigned, Status, Text}
use Rattle.pmb_command.specs.Parts.{CommandParts, DeviceParts}
use Rattle.pmb_json_fields.specs.declared.basis.Basis.{Basis}
use Rattle.pmb_json_fields.specs.declared.basis.Basis.TheVariants.{Told, Assumed}
use Rattle.pmb_json_objects.specs.Seen.{SeenData, basis_at, mode_at, page_at}
use Rattle.pmb_quantity.specs.Fraction.{Fraction}
use Rattle.pmb_value.specs.WordFault.{value_in}
use Rattle.pmb_value.specs.declared.number_format.WordFault.{WordFault}
use Rattle.pmb_value.specs.declared.number_format.WordFault.TheVariants.{NotANumber, NoCode, Off}
use Rattle.pmb_value.specs.declared.sign.Sign.TheVariants.{Signed, Unsigned}
use Rattle.pmb_voltage.specs.Voltage.{VoltagesData, voltage_format, voltages_of}
use Rattle.pmb_voltage.specs.declared.voltage.NoVoltage.{NoVoltage}
use Rattle.pmb_voltage.specs.declared.voltage.NoVoltage.TheVariants.{Unknown, Page, Vid, Relative, Coefficients}
use Rattle.pmb_voltage.specs.declared.voltage.VoltageFormat.{VoltageFormat}
use Rattle.pmb_items.specs.Bytes.{flag}
use Rattle.pmb_items.specs.declared.item.ItemNumber.{ItemNumber}

-- no value, by why there is none
abbrev pub no_value : ℕ → ItemNumber
no_value kind = record { numerator = pos 0; denominator = pos 0; kind = kind; assumed = 0 }

-- data that are no number
abbrev pub no_number : ItemNumber
no_number = no_value 0

abbrev pub no_voltage_kind : NoVoltage → ℕ
no_voltage_kind Unknown = 3
no_voltage_kind Page = 4
no_voltage_kind Vid = 5
no_voltage_kind Relative = 6
no_voltage_kind Coefficients = 7

abbrev pub word_fault_kind : WordFault → ℕ
word_fault_kind NotANumber = 8
word_fault_kind NoCode = 9
word_fault_kind Off = 10

abbrev pub is_assumed : Basis → Bool
is_assumed Told = false
is_assumed Assumed = true

-- a value, or a factor of VOUT_COMMAND
abbrev pub value_kind : Bool → ℕ
value_kind true = 2
value_kind false = 1

abbrev pub value_number : Bool → Bool → Result Fraction WordFault → ItemNumber
value_number is_ratio assumed (Ok quantity) = record {
  numerator = quantity.numerator;
  denominator = pos quantity.denominator;
  kind = value_kind is_ratio;
  assumed = flag assumed;
}
value_number is_ratio assumed (Err fault) = no_value (word_fault_kind fault)

-- a word of an output voltage
abbrev pub voltage_number : Bool → Result VoltageFormat NoVoltage → ℕ → ItemNumber
voltage_number assumed (Ok format) word = value_number format.is_ratio assumed (value_in format.number word)
voltage_number assumed (Err why) word = no_value (no_voltage_kind why)

-- a word of the command with a code, by its kind
abbrev pub word_number : VoltagesData → Bool → ℕ → Kind → ℕ → ItemNumber
word_number voltages assumed code Raw word = no_number
word_number voltages assumed code (Number format) word = value_number false false (value_in format word)
word_number voltages assumed code Vout word = voltage_number assumed (voltage_format voltages code Unsigned) word
word_number voltages assumed code VoutSigned word = voltage_number assumed (voltage_format voltages code Signed) word
word_number voltages assumed code Status word = no_number
word_number voltages assumed code Text word = no_number

-- two bytes are a word, the low one first; another number of bytes is no number
abbrev pub number_of : VoltagesData → Bool → ℕ → Kind → List ℕ → ItemNumber
number_of voltages assumed code kind [] = no_number
number_of voltages assumed code kind (a ∷ []) = no_number
number_of voltages assumed code kind (low ∷ high ∷ []) = word_number voltages assumed code kind (low + 256 * high)
number_of voltages assumed code kind (a ∷ b ∷ c ∷ bytes) = no_number

-- .. of a command of a device, by what is known there
abbrev pub number_seen : SeenData → ℕ → List ℕ → DeviceParts → CommandParts → ItemNumber
number_seen seen addr bytes device c =
    number_of (voltages_of device (mode_at seen addr) (page_at seen addr)) (is_assumed (basis_at seen addr))
    c.entry.code c.entry.kind bytes
