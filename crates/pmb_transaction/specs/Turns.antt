-- Which events take turns in a packet.
--
-- Any two events of a packet that stand side by side take turns so. This allows more than packets
-- do: it looks at two events alone, and knows no address, no command and no length. STOP after
-- `S addr+W A` takes its turn, and no packet is so short.
use Rattle.std.specs.Prelude.{Bool, true, false, not}
use Rattle.pmb_bus.specs.declared.event.Event.{Event}
use Rattle.pmb_bus.specs.declared.event.Event.TheVariants.{Start, Byte, Ack, Nack, Stop}

-- the answer to a byte
abbrev pub is_answer : Event → Bool
is_answer Start = false
is_answer (Byte b) = false
is_answer Ack = true
is_answer Nack = true
is_answer Stop = false

-- START, a byte or STOP
abbrev pub is_no_answer : Event → Bool
is_no_answer event = not (is_answer event)

abbrev pub is_byte : Event → Bool
is_byte Start = false
is_byte (Byte b) = true
is_byte Ack = false
is_byte Nack = false
is_byte Stop = false

abbrev pub is_stop : Event → Bool
is_stop Start = false
is_stop (Byte b) = false
is_stop Ack = false
is_stop Nack = false
is_stop Stop = true

-- Whether the second event may come directly after the first in some packet: after START a byte,
-- after a byte its answer, after ACK what is no answer, after NACK STOP, and after STOP nothing.
abbrev pub follows_in_turn : Event → Event → Bool
follows_in_turn Start event = is_byte event
follows_in_turn (Byte b) event = is_answer event
follows_in_turn Ack event = is_no_answer event
follows_in_turn Nack event = is_stop event
follows_in_turn Stop event = false
