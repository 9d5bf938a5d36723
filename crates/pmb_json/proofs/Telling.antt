-- Packets tell bytes, so PAGE and PHASE stay bytes after any of them. For the law `each_line_is_json`:
-- they are numbers of one object's members. What a part writes has bytes below 256 by its form, and
-- learning keeps such a PAGE and such a PHASE. A line that was dropped tells nothing.
use Rattle.std.proofs.Common.{Bool, true, false, cond, ℕ, ◌<◌, if◌then◌else◌, ◌&&◌, ◌||◌, length, nat_eq, nat_lt, Option, Some, None, List, [], ◌∷◌, ◌++◌}
use Rattle.std.proofs.Common.{fold, map, arith}
use Rattle.std.specs.Prelude.{IfSome, option_and_then}
use Rattle.std.specs.List.{AllByRecursion}
use Rattle.std.specs.Option.{is_some, option_or}
use Rattle.pmb_bus.specs.declared.event.Event.{Event}
use Rattle.pmb_command.specs.Parts.{DeviceParts, device_with}
use Rattle.pmb_unknown_start.specs.declared.start.Start.{Start}
use Rattle.pmb_unknown_start.specs.declared.start.Start.TheVariants.{AllKnown, Late, LateFixedMode}
use Rattle.pmb_unknown_start.specs.Known.{KnownPaging, first_known, first_page, forget_modes, forget_paging, known}
use Rattle.pmb_unknown_start.specs.Known.{learn_bytes, learn_mode, learn_past, learn_told, learn_transaction}
use Rattle.pmb_unknown_start.specs.Known.{learn_value, learn_written, own_page, page, page_of, told_by_read}
use Rattle.pmb_unknown_start.specs.Past.{PastData, Said, Dropped}
use Rattle.pmb_unknown_start.specs.Phase.{last_phase, only_byte, phase, phase_code, phase_of, told_phase, told_since}
use Rattle.pmb_unknown_start.specs.Phase.{told_then}
use Rattle.pmb_unknown_start.specs.Restores.{untells}
use Rattle.pmb_unknown_start.specs.Taken.{as_taken, is_crossed, taken, taken_part}
use Rattle.pmb_note.specs.Paging.{RegisterTold, all_pages, page_code, told, told_by_part, vout_mode_code}
use Rattle.pmb_json_text.specs.Spelling.{AreBytes}
use Rattle.pmb_transaction.specs.Packet.{Packet, PartsEvents}
use Rattle.pmb_transaction.specs.Transaction.{PartData, TransactionData, Write, Read, Call, Refused, Alert, NoAlert}
use Rattle.pmb_json.proofs.EachOf.{each_of_both, of_either}

-- ---- what packets tell

abbrev pub AreTold : List RegisterTold → Type 0
AreTold all = AllByRecursion (λ t. AreBytes t.bytes) all

-- a transaction tells bytes
abbrev pub TellsBytes : TransactionData → Type 0
TellsBytes t = AreTold (told t)

-- so does what was said, and a line that was dropped tells nothing
abbrev pub PastTellsBytes : PastData → Type 0
PastTellsBytes (Said t) = TellsBytes t
PastTellsBytes Dropped = Unit {0}

abbrev pub AllTellBytes : List PastData → Type 0
AllTellBytes past = AllByRecursion PastTellsBytes past

abbrev pub HaveBytes : List PartData → Type 0
HaveBytes parts = AllByRecursion (λ part. AreBytes part.bytes) parts

told_by_each : (parts : List PartData) → HaveBytes parts → AreTold (map told_by_part parts)
told_by_each [] have = tt
told_by_each (part ∷ parts) have = (have.0, told_by_each parts have.1)

module _ (profile : List DeviceParts) where
  pub parts_have_bytes : (parts : List PartData) (events : List Event) → PartsEvents profile parts events
      → HaveBytes parts
  parts_have_bytes [] events each = tt
  parts_have_bytes (part ∷ parts) events each = (each.3.allowed.fits.small, parts_have_bytes parts each.1 each.4)

  pub packets_tell_bytes : (t : TransactionData) (events : List Event) → Packet profile t events → TellsBytes t
  packets_tell_bytes (Write parts) events packet = told_by_each parts (parts_have_bytes parts packet.legs packet.each)
  packets_tell_bytes (Read t) events packet = (packet.fits.small, tt)
  packets_tell_bytes (Call t) events packet = tt
  packets_tell_bytes (Refused t) events packet = told_by_each t.parts (parts_have_bytes t.parts packet.legs packet.each)
  packets_tell_bytes (Alert t) events packet = tt
  packets_tell_bytes NoAlert events packet = tt

-- so does what a device takes of it
taken_parts : (device : DeviceParts) (parts : List PartData) → AreTold (map told_by_part parts)
    → AreTold (map told_by_part (map (taken_part device) parts))
taken_parts device [] tell = tt
taken_parts device (part ∷ parts) tell = (tell.0, taken_parts device parts tell.1)

taken_tells : (device : DeviceParts) (t : TransactionData) → TellsBytes t → TellsBytes (taken device t)
taken_tells device (Write parts) tell = taken_parts device parts tell
taken_tells device (Read t) tell = tell
taken_tells device (Call t) tell = tell
taken_tells device (Refused t) tell = taken_parts device t.parts tell
taken_tells device (Alert t) tell = tell
taken_tells device NoAlert tell = tell

one_tells : (device : DeviceParts) (t : TransactionData) (crossed : Bool) → TellsBytes t
    → PastTellsBytes (cond crossed Dropped (Said (taken device t)))
one_tells device t true tell = tt
one_tells device t false tell = taken_tells device t tell

all_taken_tell : (device : DeviceParts) (past : List PastData) → AllTellBytes past
    → AllTellBytes (as_taken device past)
all_taken_tell device [] tell = tt
all_taken_tell device (Said t ∷ past) tell =
    (one_tells device t (is_crossed device t) tell.0, all_taken_tell device past tell.1)
all_taken_tell device (Dropped ∷ past) tell = (tt, all_taken_tell device past tell.1)

-- ---- PAGE

abbrev pub IsByteIfKnown : Option ℕ → Type 0
IsByteIfKnown known = IfSome known (λ n. n < 256)

abbrev pub HasBytePage : KnownPaging → Type 0
HasBytePage k = IsByteIfKnown k.page

module _ (device : DeviceParts) where
  behind_value : (code value : ℕ) (k : KnownPaging) → value < 256 → HasBytePage k
      → HasBytePage (learn_value device code value k)
  behind_value code value k small is =
      of_either HasBytePage (nat_eq code page_code) (record { page = Some value; modes = k.modes })
      (if nat_eq code vout_mode_code then learn_mode device value k else k) small
      (of_either HasBytePage (nat_eq code vout_mode_code) (learn_mode device value k) k is is)

  behind_bytes : (code : ℕ) (bytes : List ℕ) (k : KnownPaging) → AreBytes bytes → HasBytePage k
      → HasBytePage (learn_bytes device code bytes k)
  behind_bytes code [] k small is = is
  behind_bytes code (value ∷ []) k small is = behind_value code value k small.0 is
  behind_bytes code (a ∷ b ∷ bytes) k small is = is

  behind_one : (t : RegisterTold) (k : KnownPaging) → AreBytes t.bytes → HasBytePage k
      → HasBytePage (learn_told device k t)
  behind_one t k small is = of_either HasBytePage (nat_eq t.addr device.address) (learn_bytes device t.code t.bytes k) k
      (behind_bytes t.code t.bytes k small is) is

  -- VOUT_MODE may be untold after a write; PAGE stays
  behind_forgetting : (start : Start) (k : KnownPaging) → HasBytePage k → HasBytePage (forget_modes start k)
  behind_forgetting AllKnown k is = is
  behind_forgetting Late k is = is
  behind_forgetting LateFixedMode k is = is

  -- after a line that was dropped PAGE stays, or is not known
  behind_own : (modes : List (Option ℕ)) (page : Option ℕ) → IsByteIfKnown page → IsByteIfKnown (own_page modes page)
  behind_own modes None is = tt
  behind_own modes (Some page) is = of_either IsByteIfKnown (nat_lt page (length modes) || nat_eq page all_pages)
      (Some page) None is tt

  behind_drop : (start : Start) (k : KnownPaging) → HasBytePage k → HasBytePage (forget_paging start k)
  behind_drop AllKnown k is = behind_own k.modes k.page is
  behind_drop Late k is = tt
  behind_drop LateFixedMode k is = tt

  module _ (start : Start) where
    behind_write : (t : RegisterTold) (k : KnownPaging) → AreBytes t.bytes → HasBytePage k
        → HasBytePage (learn_written start device k t)
    behind_write t k small is =
        let now = learn_told device k t in
        let told_now = behind_one t k small is in
        of_either HasBytePage (untells device.address t) (forget_modes start now) now
        (behind_forgetting start now told_now) told_now

    behind_writes : (all : List RegisterTold) (k : KnownPaging) → AreTold all → HasBytePage k
        → HasBytePage (fold (learn_written start device) k all)
    behind_writes [] k small is = is
    behind_writes (t ∷ all) k small is =
        behind_writes all (learn_written start device k t) small.1 (behind_write t k small.0 is)

    behind_transaction : (t : TransactionData) (k : KnownPaging) → TellsBytes t → HasBytePage k
        → HasBytePage (learn_transaction start device k t)
    behind_transaction (Write parts) k tell is = behind_writes (map told_by_part parts) k tell is
    behind_transaction (Read t) k tell is = behind_one (told_by_read t) k tell.0 is
    behind_transaction (Call t) k tell is = is
    behind_transaction (Refused t) k tell is = behind_writes (map told_by_part t.parts) k tell is
    behind_transaction (Alert t) k tell is = is
    behind_transaction NoAlert k tell is = is

    behind_one_past : (x : PastData) (k : KnownPaging) → PastTellsBytes x → HasBytePage k
        → HasBytePage (learn_past start device k x)
    behind_one_past (Said t) k tell is = behind_transaction t k tell is
    behind_one_past Dropped k tell is = behind_drop start k is

    behind_past : (past : List PastData) (k : KnownPaging) → AllTellBytes past → HasBytePage k
        → HasBytePage (fold (learn_past start device) k past)
    behind_past [] k tell is = is
    behind_past (x ∷ past) k tell is =
        behind_past past (learn_past start device k x) tell.1 (behind_one_past x k tell.0 is)

at_first_known : (start : Start) → IsByteIfKnown (first_page start)
at_first_known AllKnown = omega arith
at_first_known Late = tt
at_first_known LateFixedMode = tt

page_found : (start : Start) (past : List PastData) (found : Option DeviceParts) → AllTellBytes past
    → IsByteIfKnown (page_of (λ device. known start device past) found)
page_found start past None tell = tt
page_found start past (Some device) tell =
    behind_past device start (as_taken device past) (first_known start device) (all_taken_tell device past tell)
    (at_first_known start)

-- PAGE is a byte after what tells bytes
pub page_is_byte : (start : Start) (profile : List DeviceParts) (past : List PastData) (addr : ℕ) → AllTellBytes past
    → IfSome (page start profile past addr) (λ page. page < 256)
page_is_byte start profile past addr tell = page_found start past (device_with addr profile) tell

-- ---- PHASE

of_bytes : (bytes : List ℕ) → AreBytes bytes → IsByteIfKnown (only_byte bytes)
of_bytes [] small = tt
of_bytes (byte ∷ []) small = small.0
of_bytes (a ∷ b ∷ bytes) small = tt

later_or_earlier : (later earlier : Option ℕ) → IsByteIfKnown later → IsByteIfKnown earlier
    → IsByteIfKnown (option_or later earlier)
later_or_earlier None earlier first second = second
later_or_earlier (Some n) earlier first second = first

last_is_byte : (addr : ℕ) (all : List RegisterTold) → AreTold all → IsByteIfKnown (last_phase addr all)
last_is_byte addr [] small = tt
last_is_byte addr (t ∷ all) small =
    later_or_earlier (last_phase addr all) (told_phase addr t) (last_is_byte addr all small.1)
    (of_either IsByteIfKnown (nat_eq t.addr addr && nat_eq t.code phase_code) (only_byte t.bytes) None
    (of_bytes t.bytes small.0) tt)

since_told : (all : List RegisterTold) (past : List PastData) → AreTold all → AllTellBytes past
    → AreTold (fold told_then all past)
since_told all [] are tell = are
since_told all (Said t ∷ past) are tell =
    since_told (all ++ told t) past (each_of_both (λ t. AreBytes t.bytes) all (told t) are tell.0) tell.1
since_told all (Dropped ∷ past) are tell = since_told [] past tt tell.1

of_found : (past : List PastData) (addr : ℕ) (found : Option DeviceParts) → AllTellBytes past
    → IsByteIfKnown (option_and_then (phase_of addr past) found)
of_found past addr None tell = tt
of_found past addr (Some device) tell =
    let own = as_taken device past in
    of_either IsByteIfKnown (is_some device.phases) (last_phase addr (told_since own)) None
    (last_is_byte addr (told_since own) (since_told [] own tt (all_taken_tell device past tell))) tt

-- so is PHASE
pub phase_is_byte : (profile : List DeviceParts) (past : List PastData) (addr : ℕ) → AllTellBytes past
    → IfSome (phase profile past addr) (λ phase. phase < 256)
phase_is_byte profile past addr tell = of_found past addr (device_with addr profile) tell
