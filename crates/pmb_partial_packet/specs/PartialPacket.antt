-- Device, bytes and error code of an unfinished packet: to whom it is, what was sent, what was
-- replied, and which packet error code was due.
use Rattle.std.specs.Prelude.{ℕ, ◌/◌, ◌%◌, ◌==◌, ◌≤◌, Bool, true, false, not, if◌then◌else◌, Option, Some, None, List}
use Rattle.std.specs.Prelude.{[], ◌∷◌, length, reverse, option_map}
use Rattle.std.specs.List.{AllByRecursion, find}
use Rattle.std.specs.Option.{option_and_then}
use Rattle.pmb_bus.specs.declared.event.Event.{Event}
use Rattle.pmb_bus.specs.declared.event.Event.TheVariants.{Start, Byte, Ack, Nack, Stop}
use Rattle.pmb_bus.specs.Address.{read_address, alert_address}
use Rattle.pmb_bus.specs.Pec.{pec}
use Rattle.pmb_transaction.specs.declared.reason.Reason.{Reason}
use Rattle.pmb_transaction.specs.declared.reason.Reason.TheVariants.{ReadFirst, BadRestart, BadPec, UnknownDevice}
use Rattle.pmb_transaction.specs.declared.reason.Reason.TheVariants.{UnknownCommand, TooLong, TooShort, WrongEvent}
use Rattle.pmb_transaction.specs.declared.reason.Reason.TheVariants.{Truncated}

-- ---- legs

-- the bytes up to the next START
abbrev pub bytes_of_leg : List Event → List ℕ
bytes_of_leg [] = []
bytes_of_leg (Start ∷ events) = []
bytes_of_leg (Byte b ∷ events) = b ∷ bytes_of_leg events
bytes_of_leg (Ack ∷ events) = bytes_of_leg events
bytes_of_leg (Nack ∷ events) = bytes_of_leg events
bytes_of_leg (Stop ∷ events) = bytes_of_leg events

-- the bytes of each leg, its address byte the first; none where only START came
abbrev pub legs : List Event → List (List ℕ)
legs [] = []
legs (Start ∷ events) = bytes_of_leg events ∷ legs events
legs (Byte b ∷ events) = legs events
legs (Ack ∷ events) = legs events
legs (Nack ∷ events) = legs events
legs (Stop ∷ events) = legs events

-- the last one of which something holds
abbrev pub last_with : (List ℕ → Bool) → List (List ℕ) → Option (List ℕ)
last_with holds all = find holds (reverse all)

-- the bytes of a leg that may be missing
abbrev pub leg_or_none : Option (List ℕ) → List ℕ
leg_or_none None = []
leg_or_none (Some leg) = leg

-- ---- what a leg's bytes are

abbrev pub has_address : List ℕ → Bool
has_address [] = false
has_address (address ∷ bytes) = true

-- bit 0 of the address byte is 0 where the leg is written, and 1 where it is read
abbrev pub is_written : List ℕ → Bool
is_written [] = false
is_written (address ∷ bytes) = address % 2 == 0

abbrev pub is_read : List ℕ → Bool
is_read [] = false
is_read (address ∷ bytes) = not (address % 2 == 0)

-- the address of seven bits that the leg is to
abbrev pub leg_address : List ℕ → Option ℕ
leg_address [] = None
leg_address (address ∷ bytes) = Some (address / 2)

-- the device that has it; an alert is that of no device
abbrev pub leg_device : List ℕ → Option ℕ
leg_device [] = None
leg_device (address ∷ bytes) = if address == read_address alert_address then None else Some (address / 2)

-- what follows the address byte
abbrev pub behind_address : List ℕ → List ℕ
behind_address [] = []
behind_address (address ∷ bytes) = bytes

-- ---- what was said

-- the device of the last leg that has an address byte
abbrev pub said_device : List Event → Option ℕ
said_device events = option_and_then leg_device (last_with has_address (legs events))

-- the last leg that is written: to which address, and what was sent after it
abbrev pub written_leg : List Event → Option (List ℕ)
written_leg events = last_with is_written (legs events)

abbrev pub written_to : List Event → Option ℕ
written_to events = option_and_then leg_address (written_leg events)

abbrev pub sent : List Event → Option (List ℕ)
sent events = option_map behind_address (written_leg events)

-- the last leg
abbrev pub last_leg : List Event → Option (List ℕ)
last_leg events = last_with (λ leg. true) (legs events)

-- .. where it is read, and what was replied in it
abbrev pub if_read : Option (List ℕ) → Option (List ℕ)
if_read None = None
if_read (Some leg) = if is_read leg then Some leg else None

abbrev pub reply : List Event → Option (List ℕ)
reply events = option_map behind_address (if_read (last_leg events))

-- ---- the right packet error code

-- the bytes of the packet so far
abbrev pub all_bytes : List Event → List ℕ
all_bytes [] = []
all_bytes (Start ∷ events) = all_bytes events
all_bytes (Byte b ∷ events) = b ∷ all_bytes events
all_bytes (Ack ∷ events) = all_bytes events
all_bytes (Nack ∷ events) = all_bytes events
all_bytes (Stop ∷ events) = all_bytes events

abbrev pub but_last : List ℕ → List ℕ
but_last [] = []
but_last (b ∷ []) = []
but_last (b ∷ c ∷ bytes) = b ∷ but_last (c ∷ bytes)

-- The packet error code that was due, where another one came. Where a reply is read, the wrong code
-- is the refused event itself, and the right one covers all bytes of the packet. Where a leg is
-- written, the wrong code was sent and its ACK is refused, and the right one covers the bytes of
-- that leg before it.
abbrev pub due_pec : List Event → Event → Option ℕ
due_pec events (Byte b) = Some (pec (all_bytes events))
due_pec events Ack = Some (pec (but_last (leg_or_none (last_leg events))))
due_pec events Start = None
due_pec events Nack = None
due_pec events Stop = None

-- It is told where a wrong code is the reason to refuse an event, and nowhere else.
abbrev pub right_pec : Reason → List Event → Event → Option ℕ
right_pec BadPec events event = due_pec events event
right_pec ReadFirst events event = None
right_pec BadRestart events event = None
right_pec UnknownDevice events event = None
right_pec UnknownCommand events event = None
right_pec TooLong events event = None
right_pec TooShort events event = None
right_pec WrongEvent events event = None
right_pec Truncated events event = None

-- ---- how much is said

-- After its address a leg has no more bytes than a code, a count, 255 data and a packet error code.
abbrev pub IsShort : List ℕ → Type 0
IsShort leg = length (behind_address leg) ≤ 258

abbrev pub LegsAreShort : List Event → Type 0
LegsAreShort events = AllByRecursion IsShort (legs events)
