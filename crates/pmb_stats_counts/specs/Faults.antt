-- Which status bits tell of faults, and which reads find one set.
use Rattle.std.specs.Prelude.{ℕ, zero, suc, ◌+◌, ◌*◌, Bool, true, false, not, ◌&&◌, ◌||◌, Option, Some}
use Rattle.std.specs.Prelude.{None, List, []}
use Rattle.std.specs.Prelude.{◌∷◌, codes, nat_eq}
use Rattle.std.specs.List.{ends_with}
use Rattle.std.specs.Str.{bytes_eq}
use Rattle.pmb_command.specs.declared.entry.Kind.{Kind}
use Rattle.pmb_command.specs.declared.entry.Kind.TheVariants.{Raw, Number, Vout, VoutSigned, Text}
use Rattle.pmb_command.specs.declared.entry.Kind.TheVariants.{Status}
use Rattle.pmb_command.specs.Parts.{CommandParts, DeviceParts, NamedBit, device_with}
use Rattle.pmb_command_data.specs.Bits.{bit_text_in}
use Rattle.pmb_facts.specs.Fact.{WhatData, Write, Read, Call, Refused, Alert, NoAlert, Other, Refusal, BadToken}
use Rattle.pmb_json_objects.specs.Seen.{command_of}
use Rattle.pmb_note.specs.Note.{is_set}

-- the names of bits that tell of no fault
abbrev pub is_harmless : List ℕ → Bool
is_harmless name =
    bytes_eq name (codes "BUSY") || bytes_eq name (codes "OFF") || bytes_eq name (codes "POWER_GOOD_N")
    || ends_with nat_eq name (codes "_WARN") || ends_with nat_eq name (codes "_OVERRIDE")

-- whether a bit tells of a fault, by its name: one without a name does
abbrev pub is_fault : Option (List ℕ) → Bool
is_fault None = true
is_fault (Some name) = not (is_harmless name)

-- whether a bit of the status command with a code is set and tells of a fault: by the name that the profile
-- gives it, or else the standard's
abbrev pub is_fault_set : List NamedBit → ℕ → ℕ → ℕ → Bool
is_fault_set names code value bit = is_set value bit && is_fault (bit_text_in names code bit)

-- whether one of the lowest bits is, that many
unfoldable pub has_fault_bit : List NamedBit → ℕ → ℕ → ℕ → Bool
has_fault_bit names code value zero = false
has_fault_bit names code value (suc bit) = is_fault_set names code value bit || has_fault_bit names code value bit

-- a register of one byte, or of two, the low one first; nothing for another number of bytes
abbrev pub register_has_fault : List NamedBit → ℕ → List ℕ → Bool
register_has_fault names code [] = false
register_has_fault names code (byte ∷ []) = has_fault_bit names code byte 8
register_has_fault names code (low ∷ high ∷ []) = has_fault_bit names code (low + 256 * high) 16
register_has_fault names code (a ∷ b ∷ c ∷ bytes) = false

abbrev pub is_status : Kind → Bool
is_status Raw = false
is_status (Number format) = false
is_status Vout = false
is_status VoutSigned = false
is_status Status = true
is_status Text = false

-- whether there is a command, it is a status register, and a bit is set in it that tells of a fault
abbrev pub finds_fault : Option CommandParts → ℕ → List ℕ → Bool
finds_fault None code bytes = false
finds_fault (Some command) code bytes = is_status command.entry.kind && register_has_fault command.bits code bytes

-- whether a fact is a read of a status register in which a bit is set that tells of a fault
abbrev pub reads_fault : List DeviceParts → WhatData → Bool
reads_fault profile (Write part parts p) = false
reads_fault profile (Read t) = finds_fault (command_of (device_with t.addr profile) t.code) t.code t.reply
reads_fault profile (Call t) = false
reads_fault profile (Refused parts addr sent at_read) = false
reads_fault profile (Alert t) = false
reads_fault profile NoAlert = false
reads_fault profile (Other addr) = false
reads_fault profile (Refusal front event reason expected) = false
reads_fault profile (BadToken word) = false
