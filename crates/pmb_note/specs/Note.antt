-- The text of a note: what a transaction says, with the names of its commands, the values of its
-- numbers and the set bits of its status registers.
use Rattle.std.specs.Prelude.{ℕ, zero, suc, ◌+◌, ◌*◌, ◌/◌, ◌%◌, ◌^◌, ◌==◌, Bool, true, false, if◌then◌else◌, Option}
use Rattle.std.specs.Prelude.{Some, None, Result, Ok, Err, List, [], ◌∷◌, ◌++◌, codes, decimal, flat_map, map}
use Rattle.hex.specs.Hex.{encode_lower}
use Rattle.pmb_quantity.specs.QuantityText.{spelling}
use Rattle.pmb_coefficients.specs.Coefficients.{Coefficients}
use Rattle.pmb_quantity.specs.Fraction.{Fraction}
use Rattle.pmb_value.specs.Vout.{format_of}
use Rattle.pmb_value.specs.WordFault.{value_in}
use Rattle.pmb_value.specs.declared.number_format.NumberFormat.{NumberFormat}
use Rattle.pmb_value.specs.declared.number_format.NumberFormat.TheVariants.{Word}
use Rattle.pmb_value.specs.declared.number_format.WordFault.{WordFault}
use Rattle.pmb_value.specs.declared.vout.ModeFault.{ModeFault}
use Rattle.pmb_value.specs.declared.vout.VoutFormat.{VoutFormat}
use Rattle.pmb_command.specs.declared.entry.Kind.{Kind}
use Rattle.pmb_command.specs.declared.entry.Kind.TheVariants.{Raw, Number, Vout, VoutSigned, Status, Text}
use Rattle.pmb_command.specs.Entry.{EntryParts}
use Rattle.pmb_command.specs.Parts.{CommandParts, DeviceParts, command_with, device_with}
use Rattle.pmb_command.specs.StatusBits.{bit_text}
use Rattle.pmb_transaction.specs.Transaction.{PartData, TransactionData, Write, Read, Call, Refused, Alert, NoAlert}
use Rattle.pmb_note.specs.Paging.{mode}

-- ---- numbers

-- the word of two bytes, the low one first, by what is said of it; nothing for another number of bytes
abbrev pub of_word : (ℕ → List ℕ) → List ℕ → List ℕ
of_word text [] = []
of_word text (a ∷ []) = []
of_word text (low ∷ high ∷ []) = text (low + 256 * high)
of_word text (a ∷ b ∷ c ∷ bytes) = []

-- an exact value
abbrev pub quantity_text : Result Fraction WordFault → List ℕ
quantity_text (Ok quantity) = codes " " ++ spelling quantity
quantity_text (Err fault) = codes " raw"

-- that of a word, where it has one
unfoldable pub number_text : NumberFormat → ℕ → List ℕ
number_text format word = quantity_text (value_in format word)

-- .. in the format that VOUT_MODE names, if it names one
abbrev pub format_text : Result VoutFormat ModeFault → ℕ → List ℕ
format_text (Ok format) word = number_text (Word format) word
format_text (Err fault) word = codes " raw"

-- an output voltage by VOUT_MODE, where that is known
abbrev pub vout_text : Option ℕ → Bool → Option Coefficients → ℕ → List ℕ
vout_text None signed coefficients word = codes " raw"
vout_text (Some mode) signed coefficients word = format_text (format_of mode signed coefficients) word

-- ---- status bits

abbrev pub is_set : ℕ → ℕ → Bool
is_set value bit = value / 2 ^ bit % 2 == 1

-- the name of a bit, or its number where it has none
abbrev pub named_bit : Option (List ℕ) → ℕ → List ℕ
named_bit (Some name) bit = name
named_bit None bit = codes "bit" ++ decimal bit

-- a bit of the status command with a code, where it is set
abbrev pub set_bit_text : ℕ → ℕ → ℕ → List ℕ
set_bit_text code value bit = if is_set value bit then codes " " ++ named_bit (bit_text code bit) bit else []

-- the set bits among the lowest, so many, from the highest down
abbrev pub set_bits_text : ℕ → ℕ → ℕ → List ℕ
set_bits_text code value zero = []
set_bits_text code value (suc bit) = set_bit_text code value bit ++ set_bits_text code value bit

-- a register of so many bits
abbrev pub register_text : ℕ → ℕ → ℕ → List ℕ
register_text code bits value = if value == 0 then codes " none" else set_bits_text code value bits

-- a register of one byte, or of two, the low one first; nothing for another number of bytes
abbrev pub status_text : ℕ → List ℕ → List ℕ
status_text code [] = []
status_text code (byte ∷ []) = register_text code 8 byte
status_text code (low ∷ high ∷ []) = register_text code 16 (low + 256 * high)
status_text code (a ∷ b ∷ c ∷ bytes) = []

-- ---- commands

-- what is said of a command's data by its kind, under a VOUT_MODE
abbrev pub data_text : Option Coefficients → Option ℕ → ℕ → Kind → List ℕ → List ℕ
data_text coefficients mode code Raw bytes = []
data_text coefficients mode code (Number format) bytes = of_word (number_text format) bytes
data_text coefficients mode code Vout bytes = of_word (vout_text mode false coefficients) bytes
data_text coefficients mode code VoutSigned bytes = of_word (vout_text mode true coefficients) bytes
data_text coefficients mode code Status bytes = status_text code bytes
data_text coefficients mode code Text bytes = []

-- a command that is written or read: its name, and what is said of its data
abbrev pub value_text : Option ℕ → DeviceParts → EntryParts → List ℕ → List ℕ
value_text mode device entry bytes = entry.name ++ data_text device.vout_direct mode entry.code entry.kind bytes

-- what is said of a command, where there is one
abbrev pub of_command : (EntryParts → List ℕ) → Option CommandParts → List ℕ
of_command text None = []
of_command text (Some command) = text command.entry

-- .. of a device, where there is one
abbrev pub of_device : (DeviceParts → EntryParts → List ℕ) → ℕ → Option DeviceParts → List ℕ
of_device text code None = []
of_device text code (Some device) = of_command (text device) (command_with code device.commands)

-- ---- transactions

-- texts with ` + ` between each two
abbrev pub joined : List (List ℕ) → List ℕ
joined [] = []
joined (text ∷ []) = text
joined (text ∷ other ∷ texts) = text ++ (codes " + " ++ joined (other ∷ texts))

-- what was refused, by what was sent
abbrev pub refused_text : List ℕ → Bool → List ℕ
refused_text sent true = codes "read address refused"
refused_text [] false = codes "address refused"
refused_text (byte ∷ []) false = codes "code refused"
refused_text (a ∷ b ∷ bytes) false = codes "byte refused"

-- The note of a transaction under a profile, where each device has the VOUT_MODE of the second
-- argument.
module _ (profile : List DeviceParts) (modes : ℕ → Option ℕ) where
  -- what was written to a device, or read from it
  abbrev pub command_text : ℕ → ℕ → List ℕ → List ℕ
  command_text addr code bytes = of_device (λ device entry. value_text (modes addr) device entry bytes) code
      (device_with addr profile)

  abbrev pub part_text : PartData → List ℕ
  part_text part = command_text part.addr part.code part.bytes

  abbrev pub part_text_before : PartData → List ℕ
  part_text_before part = part_text part ++ codes " + "

  -- Of a call the name is said, and of an alert the address in bits 7 to 1.
  abbrev pub text_under : TransactionData → List ℕ
  text_under (Write parts) = joined (map part_text parts)
  text_under (Read t) = command_text t.addr t.code t.reply
  text_under (Call t) = of_device (λ device entry. entry.name) t.code (device_with t.addr profile)
  text_under (Refused t) = flat_map part_text_before t.parts ++ refused_text t.sent t.at_read
  text_under (Alert t) = codes "device " ++ encode_lower (t.byte / 2 ∷ [])
  text_under NoAlert = codes "no device"

-- the note of a transaction under a profile, after others
abbrev pub note : List DeviceParts → List TransactionData → TransactionData → List ℕ
note profile ts t = text_under profile (mode profile ts) t
