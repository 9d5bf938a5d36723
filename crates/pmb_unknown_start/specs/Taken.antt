-- What a device takes that is written at other addresses: those of its key `also` (a global address that several
-- parts have). It takes that as if it came to its own, if it has such a write. What is read there is no reply of its
-- own.
--
-- A packet may reach a device at two of its addresses. PMBus forbids that (Part I 1.3, Group Command Protocol: one
-- command to each device), so what a device makes of it isn't known: it counts for the device as a line that was
-- dropped.
use Rattle.std.specs.Prelude.{◌≡◌, ℕ, Bool, false, ◌&&◌, ◌||◌, if◌then◌else◌, List, count_by, map, nat_eq, nat_lt}
use Rattle.std.specs.List.{AllByRecursion, list_any}
use Rattle.pmb_command.specs.Forms.{has_write}
use Rattle.pmb_command.specs.Parts.{DeviceParts}
use Rattle.pmb_transaction.specs.Transaction.{PartData, TransactionData, Write, Read, Call, Refused, Alert, NoAlert}
use Rattle.pmb_unknown_start.specs.Past.{PastData, Said, Dropped}

-- whether the device listens to what is written at an address
abbrev pub listens : DeviceParts → ℕ → Bool
listens device addr = nat_eq addr device.address || list_any (nat_eq addr) device.also

-- .. takes what a part wrote at another address than its own
abbrev pub takes_other : DeviceParts → PartData → Bool
takes_other device part = list_any (nat_eq part.addr) device.also && has_write device part.code part.bytes

-- .. or at any
abbrev pub takes : DeviceParts → PartData → Bool
takes device part = nat_eq part.addr device.address || takes_other device part

-- the address of its own at which it takes that; another where it doesn't
abbrev pub taken_at : DeviceParts → PartData → ℕ
taken_at device part = if takes_other device part then device.address else part.addr

abbrev pub taken_part : DeviceParts → PartData → PartData
taken_part device part = record part { addr = taken_at device part }

-- a transaction, as the device takes it
abbrev pub taken : DeviceParts → TransactionData → TransactionData
taken device (Write parts) = Write (map (taken_part device) parts)
taken device (Read t) = Read t
taken device (Call t) = Call t
taken device (Refused t) = Refused (record t { parts = map (taken_part device) t.parts })
taken device (Alert t) = Alert t
taken device NoAlert = NoAlert

-- The device takes more than one of these parts, and one of them at another address than its own.
abbrev pub are_crossed : DeviceParts → List PartData → Bool
are_crossed device parts = list_any (takes_other device) parts && nat_lt 1 (count_by (takes device) parts)

-- a transaction reaches the device at two of its addresses
abbrev pub is_crossed : DeviceParts → TransactionData → Bool
is_crossed device (Write parts) = are_crossed device parts
is_crossed device (Read t) = false
is_crossed device (Call t) = false
is_crossed device (Refused t) = are_crossed device t.parts
is_crossed device (Alert t) = false
is_crossed device NoAlert = false

-- none of some transactions does
abbrev pub NoneCrosses : DeviceParts → List TransactionData → Type 0
NoneCrosses device ts = AllByRecursion (λ t. is_crossed device t ≡ false) ts

-- what went before, as the device took it
abbrev pub one_taken : DeviceParts → PastData → PastData
one_taken device (Said t) = if is_crossed device t then Dropped else Said (taken device t)
one_taken device Dropped = Dropped

abbrev pub as_taken : DeviceParts → List PastData → List PastData
as_taken device past = map (one_taken device) past
