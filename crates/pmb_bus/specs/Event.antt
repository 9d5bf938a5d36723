-- The events of a bus and the tokens that spell them (SMBus 3.0 section 4: START, STOP, ACK and
-- NACK).
use Rattle.std.specs.Prelude.{ℕ, ◌+◌, ◌*◌, ◌<◌, ◌==◌, Option, Some, None, if◌then◌else◌, List, [], ◌∷◌, ◌++◌, codes}
use Rattle.std.specs.Prelude.{slice_index}
use Prim.Native.String.{String}
use Rattle.std.specs.List.{flat_map}
use Rattle.hex.specs.Hex.{hex_digit_value, encode_lower}
use Rattle.pmb_bus.specs.declared.event.Event.{Event}
use Rattle.pmb_bus.specs.declared.event.Event.TheVariants.{Start, Byte, Ack, Nack, Stop}

-- the number of a character, which is written as a text of it alone
abbrev pub character : String → ℕ
character text = slice_index (codes text) 0

-- the event that one letter spells
abbrev pub letter_event : ℕ → Option Event
letter_event b =
    if b == character "S" then Some Start
    else if b == character "P" then Some Stop
    else if b == character "A" then Some Ack
    else if b == character "N" then Some Nack
    else None

-- the byte of two digits
abbrev pub byte_event : Option ℕ → Option ℕ → Option Event
byte_event (Some high) (Some low) = Some (Byte (high * 16 + low))
byte_event (Some high) None = None
byte_event None low = None

-- The event that a word spells: a letter, or two hexadecimal digits of either case. Other words
-- spell none.
abbrev pub event_of : List ℕ → Option Event
event_of [] = None
event_of (b ∷ []) = letter_event b
event_of (a ∷ b ∷ []) = byte_event (hex_digit_value a) (hex_digit_value b)
event_of (a ∷ b ∷ c ∷ more) = None

-- The canonical text of an event: its token in lower-case digits and a space; after STOP a LF.
abbrev pub text_of : Event → List ℕ
text_of Start = codes "S "
text_of (Byte b) = encode_lower (b ∷ []) ++ codes " "
text_of Ack = codes "A "
text_of Nack = codes "N "
text_of Stop = codes "P\n"

-- the canonical text of a capture: that of its events, in order
abbrev pub canonical_text : List Event → List ℕ
canonical_text events = flat_map text_of events

-- the bytes of events are below 256
abbrev pub AreBytes : List Event → Type 0
AreBytes [] = Unit {0}
AreBytes (Byte b ∷ events) = (b < 256) × AreBytes events
AreBytes (Start ∷ events) = AreBytes events
AreBytes (Ack ∷ events) = AreBytes events
AreBytes (Nack ∷ events) = AreBytes events
AreBytes (Stop ∷ events) = AreBytes events
