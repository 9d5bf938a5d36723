-- What a line says of a packet.
use Rattle.std.specs.Prelude.{ℕ, Bool, true, false, if◌then◌else◌, nat_eq, nat_le, Option, Some, None, List}
use Rattle.std.specs.Prelude.{[], ◌∷◌}
use Rattle.std.specs.Prelude.{◌++◌, codes, decimal, drop}
use Rattle.pmb_command.specs.declared.entry.Kind.{Kind}
use Rattle.pmb_command.specs.declared.entry.Kind.TheVariants.{Raw, Number, Vout, VoutSigned, Status, Text}
use Rattle.pmb_command.specs.Entry.{EntryParts}
use Rattle.pmb_command.specs.Parts.{CommandParts, DeviceParts, device_with}
use Rattle.pmb_command_data.specs.Phases.{has_phases}
use Rattle.pmb_json_fields.specs.declared.access.Access.TheVariants as access
use Rattle.pmb_json_objects.specs.Packets.{is_whole_write, last_byte}
use Rattle.pmb_json_objects.specs.Seen.{SeenData, command_at, entry_at, phase_at}
use Rattle.pmb_partial_packet.specs.PartialPacket.{but_last}
use Rattle.pmb_transaction.specs.Transaction.{PartData}
use Rattle.pmb_log_data.specs.Data.{call_meaning, data_says}
use Rattle.pmb_log_data.specs.Text.{after_says, byte_digits, bytes_says}
use Rattle.pmb_log_data.specs.Whole.{leg_code}

-- which part of how many; nothing where it is the only one
abbrev pub part_says : ℕ → ℕ → List ℕ
part_says part parts = if nat_le parts 1 then []
    else codes " (part " ++ decimal part ++ codes " of " ++ decimal parts ++ codes ")"

-- ---- phases

abbrev pub one_phase_says : ℕ → List ℕ
one_phase_says phase = codes " (phase " ++ decimal phase ++ codes ")"

-- the selected phase; ffh selects all
abbrev pub phase_says : Option ℕ → List ℕ
phase_says None = codes " (phase unknown)"
phase_says (Some phase) = if nat_eq phase 0xff then codes " (all phases)" else one_phase_says phase

-- whether a command of a device has a value for each phase
abbrev pub is_of_phases : Option DeviceParts → Option CommandParts → Bool
is_of_phases None command = false
is_of_phases (Some device) None = false
is_of_phases (Some device) (Some command) = has_phases device command

-- the selected phase of such a command; nothing of another
abbrev pub command_phase : SeenData → ℕ → ℕ → List ℕ
command_phase seen addr code =
    if is_of_phases (device_with addr seen.profile) (command_at seen addr code) then phase_says (phase_at seen addr)
    else []

-- ---- writes, reads and calls

-- a register of one byte or of two
abbrev pub is_register : List ℕ → Bool
is_register [] = false
is_register (byte ∷ []) = true
is_register (low ∷ high ∷ []) = true
is_register (a ∷ b ∷ c ∷ bytes) = false

-- a write to a status register clears bits
abbrev pub verb_of_kind : Kind → List ℕ → List ℕ
verb_of_kind Raw bytes = codes "write "
verb_of_kind (Number format) bytes = codes "write "
verb_of_kind Vout bytes = codes "write "
verb_of_kind VoutSigned bytes = codes "write "
verb_of_kind Status bytes = if is_register bytes then codes "clear " else codes "write "
verb_of_kind Text bytes = codes "write "

abbrev pub verb : Option EntryParts → List ℕ → List ℕ
verb None bytes = codes "write "
verb (Some entry) bytes = verb_of_kind entry.kind bytes

module _ (seen : SeenData) where
  -- a write without data is sent alone
  abbrev pub written_says : ℕ → ℕ → List ℕ → List ℕ
  written_says addr code [] = codes "sent"
  written_says addr code (b ∷ bytes) =
      verb (entry_at seen addr code) (b ∷ bytes) ++ data_says seen access.Write addr code (b ∷ bytes)
      ++ command_phase seen addr code

  abbrev pub write_says : ℕ → ℕ → PartData → List ℕ
  write_says part parts p = written_says p.addr p.code p.bytes ++ part_says part parts

  abbrev pub read_says : ℕ → ℕ → List ℕ → List ℕ
  read_says addr code reply = data_says seen access.Read addr code reply ++ command_phase seen addr code

  abbrev pub call_says : ℕ → ℕ → List ℕ → List ℕ → List ℕ
  call_says addr code bytes reply =
      codes "call " ++ bytes_says bytes ++ codes ", reply " ++ bytes_says reply
      ++ call_meaning seen addr code bytes reply

-- ---- what was refused

-- whether an error code is the right one, and the one that is
abbrev pub verdict_says : ℕ → ℕ → List ℕ
verdict_says code right =
    if nat_eq code right then codes ", which is right" else codes ": " ++ byte_digits right ++ codes " is right"

-- a byte in the place of an error code
abbrev pub error_code_says : ℕ → ℕ → List ℕ
error_code_says code right = codes "refused at its error code " ++ byte_digits code ++ verdict_says code right

-- the last of the bytes that were sent: an error code where those before it are a whole write
abbrev pub last_says : Option DeviceParts → ℕ → List ℕ → Option ℕ → List ℕ
last_says device addr front None = []
last_says device addr front (Some last) =
    if is_whole_write device front then error_code_says last (leg_code addr front)
    else codes "refused at byte " ++ byte_digits last ++ after_says (drop 1 front)

abbrev pub leg_says : Option DeviceParts → ℕ → List ℕ → Bool → List ℕ
leg_says device addr sent true = codes "refused at its read address"
leg_says device addr [] false = codes "refused at its address"
leg_says device addr (code ∷ []) false = codes "refused at its code"
leg_says device addr (code ∷ b ∷ bytes) false =
    last_says device addr (but_last (code ∷ b ∷ bytes)) (last_byte (code ∷ b ∷ bytes))

abbrev pub refused_says : SeenData → ℕ → ℕ → List ℕ → Bool → List ℕ
refused_says seen parts addr sent at_read =
    leg_says (device_with addr seen.profile) addr sent at_read ++ part_says parts parts
