-- What becomes of a packet, line by line, and what is told.
use Rattle.std.specs.Prelude.{ℕ, ◌+◌, ◌*◌, ◌%◌, ◌==◌, ◌&&◌, true, false, Bool, Option, Some, None, nat_le, option_map}
use Rattle.std.specs.Prelude.{if◌then◌else◌, List, [], ◌∷◌, ◌++◌, length}
use Rattle.pmb_io.specs.Lines.{TextLine}
use Rattle.pmb_recording.specs.Content.{content}
use Rattle.pmb_recording.specs.Recording.{Step, at_begin, at_end, at_fault, at_fault_ending, at_packet, at_too_long}
use Rattle.pmb_recording.specs.Recording.{following, fresh, given, is_followed, next_line, past_other_bus, quietly, skipped}
use Rattle.pmb_recording.specs.Told.{Reason, DoesNotFollow, MakesNoSense}
use Rattle.pmb_recording.specs.Wire.{bit_of, most_wire, same}
use Rattle.pmb_recording.specs.declared.recording.Recording.{Recording}
use Rattle.pmb_recording.specs.declared.recording.PacketLines.{PacketLines}
use Rattle.pmb_recording.specs.declared.wire_byte.WireByte.{WireByte}
use Rattle.pmb_sigrok_line.specs.declared.address_form.AddressForm.{AddressForm}
use Rattle.pmb_sigrok_line.specs.declared.address_form.AddressForm.TheVariants.{Shifted, Unshifted}
use Rattle.pmb_sigrok.specs.declared.sigrok.Place.{Place}
use Rattle.pmb_sigrok.specs.declared.sigrok.Place.TheVariants as at
use Rattle.pmb_sigrok.specs.declared.sigrok.Sigrok.{Sigrok}
use Rattle.pmb_sigrok_line.specs.Annotation.{is_byte, with_byte}
use Rattle.pmb_sigrok_line.specs.Line as line
use Rattle.pmb_sigrok_line.specs.Shown.{hertz_of}
use Rattle.pmb_sigrok_line.specs.Time.{time_of}
use Rattle.pmb_sigrok_line.specs.declared.event.Event.{Event}
use Rattle.pmb_sigrok_line.specs.declared.event.Event.TheVariants.{Start, Repeat, Stop, Answer, Mark, Bit, Address}
use Rattle.pmb_sigrok_line.specs.declared.event.Event.TheVariants.{Data}
use Rattle.pmb_sigrok_line.specs.declared.rate.Rate.{Rate}

-- ---- the start

-- Nothing came yet. A bus may be named, and the rate may be known.
abbrev pub start : Option (List ℕ) → Option Rate → AddressForm → Sigrok
start bus rate form = record { recording = fresh bus; place = at.Start; form = form; rate = rate }

-- ---- addresses

-- the highest address of seven bits
abbrev pub most_address : ℕ
most_address = 0x7f

-- The byte that addresses a device. An address of seven bits is not over the highest, and the lowest bit of a whole
-- byte is the direction.
abbrev pub address_byte : AddressForm → Bool → ℕ → Option ℕ
address_byte Shifted reads byte = if nat_le byte most_address then Some (byte * 2 + bit_of reads) else None
address_byte Unshifted reads byte = if same (byte % 2 == 1) reads then Some byte else None

-- An event, whose address is the byte on the wire: none where that is out of range.
abbrev pub on_wire : AddressForm → Event → Option Event
on_wire form (Address reads byte) = with_byte (Address reads) (address_byte form reads byte)
on_wire form event = Some event

-- the event of a line, if it says one in range
abbrev pub said : AddressForm → Option Event → Option Event
said form (Some event) = on_wire form event
said form None = None

-- ---- where a packet stands

-- a place, if a test holds
abbrev pub only_if : Bool → Place → Option Place
only_if true place = Some place
only_if false place = None

-- STOP and a repeated START follow an answer alone
abbrev pub is_answered : Place → Bool
is_answered at.Start = false
is_answered (at.Marked reads) = false
is_answered (at.Address reads marked) = false
is_answered (at.Data reads) = false
is_answered (at.Answered reads) = true

-- `Read` or `Write` follows START, or an address of its direction that has none in front
abbrev pub after_mark : Bool → Place → Option Place
after_mark reads at.Start = Some (at.Marked reads)
after_mark reads (at.Marked marked) = None
after_mark reads (at.Address reading true) = None
after_mark reads (at.Address reading false) = only_if (same reading reads) (at.Address reading true)
after_mark reads (at.Data reading) = None
after_mark reads (at.Answered reading) = None

-- an address follows START, or `Read` or `Write` of its direction
abbrev pub after_address : Bool → Place → Option Place
after_address reads at.Start = Some (at.Address reads false)
after_address reads (at.Marked marked) = only_if (same marked reads) (at.Address reads true)
after_address reads (at.Address reading marked) = None
after_address reads (at.Data reading) = None
after_address reads (at.Answered reading) = None

-- another byte follows an answer, in the direction of the address
abbrev pub after_data : Bool → Place → Option Place
after_data reads at.Start = None
after_data reads (at.Marked marked) = None
after_data reads (at.Address reading marked) = None
after_data reads (at.Data reading) = None
after_data reads (at.Answered reading) = only_if (same reading reads) (at.Data reading)

-- ACK or NACK follows each byte
abbrev pub after_answer : Place → Option Place
after_answer at.Start = None
after_answer (at.Marked marked) = None
after_answer (at.Address reading marked) = Some (at.Answered reading)
after_answer (at.Data reading) = Some (at.Answered reading)
after_answer (at.Answered reading) = None

-- Where a packet stands after an event in it, if that may follow. A bit may stand anywhere.
abbrev pub next_place : Place → Event → Option Place
next_place place Start = None
next_place place Repeat = only_if (is_answered place) at.Start
next_place place Stop = None
next_place place (Answer acknowledged) = after_answer place
next_place place (Mark reads) = after_mark reads place
next_place place Bit = Some place
next_place place (Address reads byte) = after_address reads place
next_place place (Data reads byte) = after_data reads place

-- ---- the bytes of a packet

-- a byte on the wire whose answer is to come
abbrev pub unanswered : Bool → ℕ → WireByte
unanswered follows_start byte = record { follows_start = follows_start; byte = byte; is_acknowledged = false }

-- an answer is that to the last byte
abbrev pub answered : Bool → List WireByte → List WireByte
answered acknowledged [] = []
answered acknowledged (b ∷ []) = record b { is_acknowledged = acknowledged } ∷ []
answered acknowledged (b ∷ next ∷ wire) = b ∷ answered acknowledged (next ∷ wire)

-- the bytes on the wire after an event
abbrev pub wire_after : List WireByte → Event → List WireByte
wire_after wire Start = wire
wire_after wire Repeat = wire
wire_after wire Stop = wire
wire_after wire (Answer acknowledged) = answered acknowledged wire
wire_after wire (Mark reads) = wire
wire_after wire Bit = wire
wire_after wire (Address reads byte) = wire ++ unanswered true byte ∷ []
wire_after wire (Data reads byte) = wire ++ unanswered false byte ∷ []

-- ---- events

-- what becomes of the machine, by what becomes of its recording
abbrev pub on : Sigrok → Step Recording → Step Sigrok
on s step = record { now = record s { recording = step.now }; text = step.text }

-- a fault
abbrev pub fault : Sigrok → Reason → Step Sigrok
fault s reason = on s (at_fault s.recording reason)

-- whether an event ends a packet
abbrev pub is_stop : Event → Bool
is_stop Stop = true
is_stop Start = false
is_stop Repeat = false
is_stop (Answer acknowledged) = false
is_stop (Mark reads) = false
is_stop Bit = false
is_stop (Address reads byte) = false
is_stop (Data reads byte) = false

-- An event that does not follow. Reading begins behind a STOP, also here.
abbrev pub refuse : Sigrok → Event → Step Sigrok
refuse s event = on s (at_fault_ending s.recording DoesNotFollow (is_stop event))

-- the packet goes on to a place, and the event is given
abbrev pub moved : Sigrok → Event → Place → Sigrok
moved s event place = record s {
  recording = record (given s.recording) { wire = record { items = wire_after s.recording.wire.items event } };
  place = place;
}

-- An event of the packet under way, by where that then stands: a fault where it may not follow, and a packet that is too
-- long where its byte has no room.
abbrev pub go_on : Sigrok → Event → Option Place → Step Sigrok
go_on s event None = refuse s event
go_on s event (Some place) =
    if is_byte event && nat_le most_wire (length s.recording.wire.items) then on s (at_too_long s.recording false) else
    quietly (moved s event place)

-- STOP ends the packet under way
abbrev pub stopped : Sigrok → Step Sigrok
stopped s = if is_answered s.place then on s (at_packet s.recording) else refuse s Stop

-- an event where a packet is under way
abbrev pub inside : Sigrok → Event → Step Sigrok
inside s Stop = stopped s
inside s event = go_on s event (next_place s.place event)

-- STOP ends what is skipped
abbrev pub after_skipped : Sigrok → Event → Sigrok
after_skipped s Stop = record s { recording = skipped s.recording }
after_skipped s event = s

-- an event that can't begin a packet, where none is under way
abbrev pub outside : Sigrok → Event → Step Sigrok
outside s event = if s.recording.is_skipping then quietly (after_skipped s event) else refuse s event

-- one of two steps, by whether a packet is under way
abbrev pub within : Option PacketLines → Step Sigrok → Step Sigrok → Step Sigrok
within (Some lines) inside outside = inside
within None inside outside = outside

-- the time of a sample at the recording's rate
abbrev pub start_time : Sigrok → Option ℕ → List ℕ
start_time s sample = time_of sample (option_map hertz_of s.rate)

-- START begins a packet wherever it stands
abbrev pub begun : Sigrok → Option ℕ → Step Sigrok
begun s sample = on (record s { place = at.Start }) (at_begin s.recording (start_time s sample))

-- an event in range
abbrev pub follow : Sigrok → Option ℕ → Event → Step Sigrok
follow s sample Start = begun s sample
follow s sample event = within s.recording.packet (inside s event) (outside s event)

-- ---- lines

-- what a line of the bus says: a fault where that is no event in range
abbrev pub take_said : Sigrok → Option ℕ → Option Event → Step Sigrok
take_said s sample (Some event) = follow s sample event
take_said s sample None = fault s MakesNoSense

-- a line of a bus, which is passed over if that is not followed
abbrev pub on_bus : Sigrok → line.Line → Step Sigrok
on_bus s l =
    if is_followed s.recording l.name then take_said s l.sample (said s.form l.event) else
    quietly (record s { recording = past_other_bus s.recording })

-- The first line that says an event settles the bus.
abbrev pub settling : Sigrok → line.Line → Option Event → Sigrok
settling s l (Some event) = record s { recording = following s.recording l.name }
settling s l None = s

-- Before that a line is of no bus.
abbrev pub take_settled : Sigrok → line.Line → Step Sigrok
take_settled s l = if s.recording.follows_bus then on_bus s l else fault s MakesNoSense

-- a line that is no remark: one of the decoder, or a fault
abbrev pub take_decoded : Sigrok → Option line.Line → Step Sigrok
take_decoded s None = fault s MakesNoSense
take_decoded s (Some l) = take_settled (settling s l l.event) l

-- what a line holds: too long, or without its LF, it is a fault
abbrev pub take_content : Sigrok → Option (List ℕ) → Step Sigrok
take_content s None = fault s MakesNoSense
take_content s (Some text) = if line.is_remark text then quietly s else take_decoded s (line.decoder_line text)

-- the next line of the recording
abbrev pub take_line : Sigrok → TextLine → Step Sigrok
take_line s given =
    take_content (record s { recording = next_line s.recording }) (content (s.recording.line == 0) given)

-- the end of the recording
abbrev pub take_end : Sigrok → Step Sigrok
take_end s = on s (at_end s.recording None)
