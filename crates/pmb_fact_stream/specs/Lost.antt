-- What may be lost where an event is refused: writes to devices of the profile, of which no fact tells. A device may
-- have taken what came of the packet before the refused event, and what is passed over from there to the next STOP
-- may hold whole packets: a START may begin one anywhere. Each write may have set PAGE, PHASE or VOUT_MODE.
use Rattle.std.specs.Prelude.{ℕ, ◌+◌, ◌-◌, ◌/◌, ◌%◌, ◌==◌, Bool, true, false, ◌&&◌, List, [], ◌∷◌, ◌++◌}
use Rattle.std.specs.Prelude.{drop, is_some, length}
use Rattle.std.specs.List.{list_any}
use Rattle.pmb_bus.specs.declared.event.Event.{Event}
use Rattle.pmb_bus.specs.declared.event.Event.TheVariants.{Start, Byte, Ack, Nack, Stop}
use Rattle.pmb_command.specs.Parts.{DeviceParts, device_with}
use Rattle.pmb_partial_packet.specs.PartialPacket.{legs, reply}
use Rattle.pmb_unknown_start.specs.Past.{PastData, Dropped}

-- ---- writes

-- a leg begins with the address of a device of the profile, for writing
abbrev pub is_write : List DeviceParts → List ℕ → Bool
is_write profile [] = false
is_write profile (address ∷ bytes) = address % 2 == 0 && is_some (device_with (address / 2) profile)

-- some leg of these events does so
abbrev pub has_write : List DeviceParts → List Event → Bool
has_write profile events = list_any (is_write profile) (legs events)

-- ---- what is passed over

-- the events up to and with the first STOP; all where there is none
abbrev pub to_stop : List Event → List Event
to_stop [] = []
to_stop (Start ∷ events) = Start ∷ to_stop events
to_stop (Byte b ∷ events) = Byte b ∷ to_stop events
to_stop (Ack ∷ events) = Ack ∷ to_stop events
to_stop (Nack ∷ events) = Nack ∷ to_stop events
to_stop (Stop ∷ events) = Stop ∷ []

-- What devices may have taken of a packet that is refused after some events, and of what is passed over, the refused
-- event first: all of it. But where a reply is read (`replies`), the leg before it was no write: it only said what is
-- to be read.
abbrev pub heard : (replies : Bool) → List Event → List Event → List Event
heard true front passed = passed
heard false front passed = front ++ passed

-- ---- what is lost

abbrev pub dropped_if : Bool → List PastData
dropped_if true = Dropped ∷ []
dropped_if false = []

-- What was lost counts as one line that was dropped: nobody knows what the devices were told.
abbrev pub lost_between : List DeviceParts → List Event → List Event → List PastData
lost_between profile front passed = dropped_if (has_write profile (heard (is_some (reply front)) front passed))

-- Of events before which n came: what is lost with the packet that begins with the event with a number, and is
-- refused after those of `front`.
abbrev pub lost_in : List DeviceParts → ℕ → List Event → ℕ → List Event → List PastData
lost_in profile n events at front = lost_between profile front (to_stop (drop ((at - n) + length front) events))
