-- What a `Late` keeps of each device.
use Rattle.std.specs.Prelude.{ℕ, if◌then◌else◌, Option, None, List, fold, map, nat_eq}
use Rattle.std.specs.Prelude.{option_and_then, slice_get}
use Rattle.std.specs.List.{list_any}
use Rattle.std.specs.Option.{option_or}
use Rattle.pmb_command.specs.Parts.{DeviceParts, device_with}
use Rattle.pmb_transaction.specs.ByAddress.{KeptByAddress}
use Rattle.pmb_transaction.specs.Transaction.{PartData, TransactionData, Write, Read, Call, Refused, Alert, NoAlert}
use Rattle.pmb_note.specs.Paging.{RegisterTold}
use Rattle.pmb_unknown_start.specs.Known.{KnownPaging, first_known, forget_modes, forget_paging, learn_bytes, told_by_read}
use Rattle.pmb_unknown_start.specs.Past.{PastData, Said, Dropped}
use Rattle.pmb_unknown_start.specs.Phase.{only_byte, phase_code}
use Rattle.pmb_unknown_start.specs.Restores.{untells_mode}
use Rattle.pmb_unknown_start.specs.Taken.{are_crossed, takes}
use Rattle.pmb_unknown_start.specs.declared.start.Start.{Start}

-- What is kept of a device: what is known by the start, and PHASE, as it was told last.
pub record KeptData : Type 0 where
  pub known : KnownPaging
  pub phase : Option ℕ

abbrev pub first_kept : Start → DeviceParts → KeptData
first_kept start device = record {
  known = first_known start device;
  phase = None;
}

-- bytes of a register are told
abbrev pub phase_in : ℕ → List ℕ → Option ℕ
phase_in code bytes = if nat_eq code phase_code then only_byte bytes else None

abbrev pub kept_bytes : DeviceParts → ℕ → List ℕ → KeptData → KeptData
kept_bytes device code bytes k = record {
  known = learn_bytes device code bytes k.known;
  phase = option_or (phase_in code bytes) k.phase;
}

-- .. that were written, which may leave VOUT_MODE untold
abbrev pub kept_untold : Start → KeptData → KeptData
kept_untold start k = record {
  known = forget_modes start k.known;
  phase = k.phase;
}

abbrev pub kept_write : Start → DeviceParts → ℕ → List ℕ → KeptData → KeptData
kept_write start device code bytes k =
    if untells_mode code bytes then kept_untold start (kept_bytes device code bytes k)
    else kept_bytes device code bytes k

-- what is read of a device is its own
abbrev pub kept_read : DeviceParts → KeptData → RegisterTold → KeptData
kept_read device k t = if nat_eq t.addr device.address then kept_bytes device t.code t.bytes k else k

-- .. after a line that was dropped
abbrev pub kept_dropped : Start → KeptData → KeptData
kept_dropped start k = record {
  known = forget_paging start k.known;
  phase = None;
}

-- what is written to it may have come to another address
abbrev pub kept_part : Start → DeviceParts → KeptData → PartData → KeptData
kept_part start device k part = if takes device part then kept_write start device part.code part.bytes k else k

-- complete parts of a packet, which may have reached it at two of its addresses
abbrev pub kept_parts : Start → DeviceParts → List PartData → KeptData → KeptData
kept_parts start device parts k =
    if are_crossed device parts then kept_dropped start k else fold (kept_part start device) k parts

-- a transaction, or a line that was dropped
abbrev pub kept_after : Start → DeviceParts → KeptData → TransactionData → KeptData
kept_after start device k (Write parts) = kept_parts start device parts k
kept_after start device k (Read t) = kept_read device k (told_by_read t)
kept_after start device k (Call t) = k
kept_after start device k (Refused t) = kept_parts start device t.parts k
kept_after start device k (Alert t) = k
kept_after start device k NoAlert = k

abbrev pub kept_past : Start → DeviceParts → KeptData → PastData → KeptData
kept_past start device k (Said t) = kept_after start device k t
kept_past start device k Dropped = kept_dropped start k

abbrev pub kept : Start → DeviceParts → List PastData → KeptData
kept start device past = fold (kept_past start device) (first_kept start device) past

-- At the address of each device of an accepted profile this is kept of it.
abbrev pub Keeps : List KeptData → List DeviceParts → (DeviceParts → KeptData) → Type 0
Keeps kept profile now = KeptByAddress kept profile now

-- what is kept in a list for the device with an address
abbrev pub kept_at : List KeptData → List DeviceParts → ℕ → Option KeptData
kept_at kept profile addr = option_and_then (λ _. slice_get kept addr) (device_with addr profile)

-- what is kept where those of some devices were changed so
abbrev pub written_to : List DeviceParts → (DeviceParts → KeptData) → (DeviceParts → KeptData) → DeviceParts → KeptData
written_to devices after now device =
    if list_any (nat_eq device.address) (map (λ d. d.address) devices) then after device else now device
