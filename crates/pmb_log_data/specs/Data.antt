-- What a line says of a command's data.
use Rattle.std.specs.Prelude.{ℕ, ◌+◌, ◌*◌, Bool, true, false, if◌then◌else◌, nat_eq, Option, Some, None, Result}
use Rattle.std.specs.Prelude.{Ok, Err}
use Rattle.std.specs.Prelude.{List, [], ◌∷◌, ◌++◌, codes}
use Rattle.pmb_quantity.specs.Fraction.{Fraction}
use Rattle.pmb_command.specs.declared.entry.Kind.{Kind}
use Rattle.pmb_command.specs.declared.entry.Kind.TheVariants.{Raw, Number, Vout, VoutSigned, Status, Text}
use Rattle.pmb_command.specs.Parts.{CommandParts, DeviceParts, command_with, device_with}
use Rattle.pmb_command_data.specs.Text.{text_of}
use Rattle.pmb_decimal.specs.Decimal.{rounded_text}
use Rattle.pmb_json_fields.specs.declared.access.Access.{Access}
use Rattle.pmb_json_fields.specs.declared.basis.Basis.{Basis}
use Rattle.pmb_json_fields.specs.declared.basis.Basis.TheVariants.{Told, Assumed}
use Rattle.pmb_json_fields.specs.Value.{form_of, set_bits}
use Rattle.pmb_json_text.specs.declared.item_order.ItemOrder.TheVariants.{First}
use Rattle.pmb_json_text.specs.Spelling.{quoted}
use Rattle.pmb_json_objects.specs.Packets.{exchange_of}
use Rattle.pmb_json_objects.specs.Seen.{SeenData, basis_at, command_at, mode_at, page_at}
use Rattle.pmb_meaning.specs.Data.{Exchange, called}
use Rattle.pmb_meaning.specs.Words.{says_words_of}
use Rattle.pmb_note.specs.Paging.{all_pages}
use Rattle.pmb_unknown_start.specs.declared.mode.KnownMode.{KnownMode}
use Rattle.pmb_unknown_start.specs.declared.mode.KnownMode.TheVariants.{Known, NoPage}
use Rattle.pmb_unknown_start.specs.declared.mode.KnownMode.TheVariants as modes
use Rattle.pmb_value.specs.WordFault.{value_in}
use Rattle.pmb_value.specs.declared.number_format.NumberFormat.{NumberFormat}
use Rattle.pmb_value.specs.declared.number_format.WordFault.{WordFault}
use Rattle.pmb_value.specs.declared.number_format.WordFault.TheVariants.{NotANumber, NoCode, Off}
use Rattle.pmb_value.specs.declared.sign.Sign.{Sign}
use Rattle.pmb_value.specs.declared.sign.Sign.TheVariants.{Unsigned, Signed}
use Rattle.pmb_voltage.specs.Voltage.{VoltagesData, format_under, voltages_of}
use Rattle.pmb_voltage.specs.declared.voltage.NoVoltage.{NoVoltage}
use Rattle.pmb_voltage.specs.declared.voltage.NoVoltage.TheVariants.{Unknown, Page, Relative, Coefficients}
use Rattle.pmb_voltage.specs.declared.voltage.NoVoltage.TheVariants as no_voltage
use Rattle.pmb_voltage.specs.declared.voltage.VoltageFormat.{VoltageFormat}
use Rattle.pmb_log_data.specs.Text.{byte_digits, bytes_says, joined}

-- ---- numbers

abbrev pub unit_says : Option (List ℕ) → List ℕ
unit_says None = []
unit_says (Some unit) = codes " " ++ unit

-- why a word has no value
abbrev pub word_fault_says : WordFault → List ℕ
word_fault_says NotANumber = codes " (not a number)"
word_fault_says NoCode = codes " (no VID code)"
word_fault_says Off = codes " (off)"

-- the nearest decimal with at most that many digits after the point, and the unit
abbrev pub quantity_says : ℕ → Option (List ℕ) → Fraction → List ℕ
quantity_says digits unit quantity = rounded_text digits quantity ++ unit_says unit

-- a word without a value as its bytes
abbrev pub value_says : ℕ → Option (List ℕ) → List ℕ → Result Fraction WordFault → List ℕ
value_says digits unit bytes (Ok quantity) = quantity_says digits unit quantity
value_says digits unit bytes (Err fault) = bytes_says bytes ++ word_fault_says fault

abbrev pub number_says : ℕ → Option (List ℕ) → List ℕ → NumberFormat → ℕ → List ℕ
number_says digits unit bytes format word = value_says digits unit bytes (value_in format word)

-- the word of two bytes, the low one first, by what is said of it; another number of bytes as they are
abbrev pub of_word : (ℕ → List ℕ) → List ℕ → List ℕ
of_word says [] = bytes_says []
of_word says (a ∷ []) = bytes_says (a ∷ [])
of_word says (low ∷ high ∷ []) = says (low + 256 * high)
of_word says (a ∷ b ∷ c ∷ bytes) = bytes_says (a ∷ b ∷ c ∷ bytes)

-- ---- output voltages

-- why a VOUT_MODE gives a word no value
abbrev pub mode_says : ℕ → List ℕ → List ℕ
mode_says mode why = codes " (VOUT_MODE " ++ byte_digits mode ++ codes " " ++ why ++ codes ")"

-- why no format is that of the selected page
abbrev pub no_page_says : Option ℕ → List ℕ
no_page_says None = codes " (no such page)"
no_page_says (Some page) = if nat_eq page all_pages then codes " (pages differ)" else codes " (no such page)"

-- why a voltage has no format, under a VOUT_MODE
abbrev pub no_format_says : Option ℕ → ℕ → NoVoltage → List ℕ
no_format_says page mode Unknown = codes " (PAGE unknown)"
no_format_says page mode Page = no_page_says page
no_format_says page mode no_voltage.Vid = mode_says mode (codes "VID")
no_format_says page mode Relative = mode_says mode (codes "relative")
no_format_says page mode Coefficients = mode_says mode (codes "DIRECT, no coefficients")

-- a value by a VOUT_MODE that is assumed says so
abbrev pub basis_says : ℕ → Basis → List ℕ
basis_says mode Told = []
basis_says mode Assumed = codes " (VOUT_MODE " ++ byte_digits mode ++ codes " assumed)"

-- a factor of VOUT_COMMAND, or a voltage
abbrev pub factor_says : ℕ → Option (List ℕ) → Bool → Fraction → List ℕ
factor_says digits unit true quantity = rounded_text digits quantity ++ codes " of VOUT_COMMAND"
factor_says digits unit false quantity = quantity_says digits unit quantity

abbrev pub marked_says : ℕ → Option (List ℕ) → List ℕ → ℕ → Basis → Bool → Result Fraction WordFault → List ℕ
marked_says digits unit bytes mode basis ratio (Ok quantity) =
    factor_says digits unit ratio quantity ++ basis_says mode basis
marked_says digits unit bytes mode basis ratio (Err fault) = bytes_says bytes ++ word_fault_says fault

-- a word in the format of a voltage, under a VOUT_MODE; its bytes where it has no value
abbrev pub by_mode_says : ℕ → Option (List ℕ) → List ℕ → Option ℕ → ℕ → Basis → Result VoltageFormat NoVoltage → ℕ
    → List ℕ
by_mode_says digits unit bytes page mode basis (Ok format) word =
    marked_says digits unit bytes mode basis format.is_ratio (value_in format.number word)
by_mode_says digits unit bytes page mode basis (Err why) word = bytes_says bytes ++ no_format_says page mode why

-- an output voltage of the command with a code, by what is known of VOUT_MODE
abbrev pub known_says : ℕ → Option (List ℕ) → List ℕ → VoltagesData → KnownMode → Basis → ℕ → Sign → ℕ → List ℕ
known_says digits unit bytes voltages (Known mode) basis code sign word =
    by_mode_says digits unit bytes voltages.page mode basis (format_under voltages mode code sign) word
known_says digits unit bytes voltages modes.Unknown basis code sign word =
    bytes_says bytes ++ codes " (VOUT_MODE unknown)"
known_says digits unit bytes voltages NoPage basis code sign word = bytes_says bytes ++ no_page_says voltages.page

abbrev pub vout_says : ℕ → Option (List ℕ) → List ℕ → VoltagesData → Basis → ℕ → Sign → ℕ → List ℕ
vout_says digits unit bytes voltages basis code sign word =
    known_says digits unit bytes voltages voltages.mode basis code sign word

-- ---- status bits

-- where none is set
abbrev pub no_bits : List (List ℕ) → List ℕ
no_bits [] = codes "no bits"
no_bits (name ∷ names) = []

abbrev pub bits_says : List (List ℕ) → List ℕ
bits_says names = joined (codes " ") First names ++ no_bits names

-- a register of one byte, or of two, the low one first; another number of bytes as they are
abbrev pub status_says : CommandParts → List ℕ → List ℕ
status_says c [] = bytes_says []
status_says c (byte ∷ []) = bits_says (set_bits c byte 8)
status_says c (low ∷ high ∷ []) = bits_says (set_bits c (low + 256 * high) 16)
status_says c (a ∷ b ∷ d ∷ bytes) = bytes_says (a ∷ b ∷ d ∷ bytes)

-- ---- texts

-- data that are a text are written as in JSON, between double quotes; others in another way
abbrev pub text_or : Option (List ℕ) → List ℕ → List ℕ
text_or None other = other
text_or (Some text) other = quoted text

-- ---- what the standard makes of the bytes

-- words after the data, where there are some
abbrev pub in_brackets : List ℕ → List ℕ
in_brackets [] = []
in_brackets (c ∷ words) = codes " (" ++ (c ∷ words) ++ codes ")"

-- by a device, its command and how the data go
abbrev pub meaning_says : DeviceParts → CommandParts → Exchange → List ℕ
meaning_says device c exchange = in_brackets (says_words_of device c.entry exchange)

-- of a call; nothing where there is no such device or command
abbrev pub call_meaning_of : Option DeviceParts → Option CommandParts → List ℕ → List ℕ → List ℕ
call_meaning_of None command bytes reply = []
call_meaning_of (Some device) None bytes reply = []
call_meaning_of (Some device) (Some c) bytes reply = meaning_says device c (called bytes reply)

abbrev pub call_meaning : SeenData → ℕ → ℕ → List ℕ → List ℕ → List ℕ
call_meaning seen addr code bytes reply =
    call_meaning_of (device_with addr seen.profile) (command_at seen addr code) bytes reply

-- ---- data of a command

module _ (seen : SeenData) (addr : ℕ) where
  -- an output voltage of a device, unsigned or signed
  abbrev pub voltage_says : DeviceParts → CommandParts → Sign → List ℕ → List ℕ
  voltage_says device c sign bytes = of_word
      (vout_says seen.digits c.unit bytes (voltages_of device (mode_at seen addr) (page_at seen addr))
      (basis_at seen addr) c.entry.code sign) bytes

  -- by the command's kind
  abbrev pub kind_says : DeviceParts → CommandParts → Kind → List ℕ → List ℕ
  kind_says device c Raw bytes = bytes_says bytes
  kind_says device c (Number format) bytes = of_word (number_says seen.digits c.unit bytes format) bytes
  kind_says device c Vout bytes = voltage_says device c Unsigned bytes
  kind_says device c VoutSigned bytes = voltage_says device c Signed bytes
  kind_says device c Status bytes = status_says c bytes
  kind_says device c Text bytes = bytes_says bytes

  -- .. or as a text, and what they mean
  abbrev pub command_says : Access → DeviceParts → CommandParts → List ℕ → List ℕ
  command_says access device c bytes =
      text_or (text_of c.entry (form_of access c.entry.shape) bytes) (kind_says device c c.entry.kind bytes)
      ++ meaning_says device c (exchange_of access bytes)

  -- the bytes alone where the device lacks the command
  abbrev pub entry_says : Access → DeviceParts → Option CommandParts → List ℕ → List ℕ
  entry_says access device None bytes = bytes_says bytes
  entry_says access device (Some c) bytes = command_says access device c bytes

  abbrev pub device_says : Access → ℕ → Option DeviceParts → List ℕ → List ℕ
  device_says access code None bytes = bytes_says bytes
  device_says access code (Some device) bytes = entry_says access device (command_with code device.commands) bytes

-- what is said of what is read from a device, or written to it
abbrev pub data_says : SeenData → Access → ℕ → ℕ → List ℕ → List ℕ
data_says seen access addr code bytes = device_says seen addr access code (device_with addr seen.profile) bytes
