-- What becomes of a transfer, event by event, and what is told.
use Rattle.std.specs.Prelude.{ℕ, ◌+◌, ◌==◌, ◌&&◌, ◌||◌, true, false, not, Bool, Option, Some, None, if◌then◌else◌, List, []}
use Rattle.std.specs.Prelude.{◌++◌, codes, decimal}
use Rattle.pmb_io.specs.Count.{capped}
use Rattle.pmb_io.specs.Lines.{TextLine}
use Rattle.pmb_recording.specs.Content.{content}
use Rattle.pmb_recording.specs.Recording.{Step, at_begin, at_end, at_failure, at_fault, at_fault_ending, at_heading}
use Rattle.pmb_recording.specs.Recording.{at_hidden_bytes, at_hidden_reply, at_loss, at_packet, following, fresh, given, is_followed}
use Rattle.pmb_recording.specs.Recording.{next_line, past_other_bus, past_other_kind, quietly, skipped}
use Rattle.pmb_recording.specs.Told.{Reason, DoesNotFollow, MakesNoSense, comment}
use Rattle.pmb_recording.specs.Wire.{same}
use Rattle.pmb_recording.specs.declared.passed.Kind.TheVariants.{I2c}
use Rattle.pmb_recording.specs.declared.recording.Recording.{Recording}
use Rattle.pmb_recording.specs.declared.recording.PacketLines.{PacketLines}
use Rattle.pmb_recording.specs.declared.wire_byte.WireByte.{WireByte}
use Rattle.pmb_trace.specs.Fields.{Outcome, event_bus}
use Rattle.pmb_trace.specs.Line as line
use Rattle.pmb_trace.specs.declared.event_name.EventName.{EventName}
use Rattle.pmb_trace.specs.declared.event_name.EventName.TheVariants.{SmbusWrite, SmbusRead, SmbusReply, SmbusResult}
use Rattle.pmb_smbus.specs.Events.{Replies, Reads, Result, Says, Unreadable, Writes, bytes_shown, hides}
use Rattle.pmb_smbus.specs.Events.{message_of, own_fault, read_of, result_of, with_front}
use Rattle.pmb_smbus.specs.Packets.{has_code_byte, has_read_leg, legs_wire, packet_wire}
use Rattle.pmb_smbus.specs.Protocols.{is_call, is_protocol}
use Rattle.pmb_smbus.specs.declared.events.Head.{Head}
use Rattle.pmb_smbus.specs.declared.protocol.Protocol.TheVariants.{Quick}
use Rattle.pmb_smbus.specs.declared.transfer.Transfer.{Transfer}
use Rattle.pmb_smbus.specs.declared.transfers.Transfers.{Transfers}

-- ---- the start

-- a transfer that begins
abbrev pub begun : Head → Bool → List ℕ → Bool → Transfer
begun head writes bytes hides = record {
  head = head;
  writes = writes;
  written = record { items = bytes };
  is_hidden = hides;
  has_reply = false;
  reply = record { items = [] };
  is_reply_hidden = false;
}

-- no transfer
abbrev pub none : Transfer
none = begun (record { address = 0; command = 0; protocol = Quick; has_code = false }) false [] false

-- nothing came yet, and the bus of a name is followed, or that of the first line
abbrev pub start : Option (List ℕ) → Transfers
start bus = record { recording = fresh bus; transfer = none; error_codes = 0 }

-- ---- what becomes of the recording

abbrev pub on : Transfers → Step Recording → Step Transfers
on s step = record { now = record s { recording = step.now }; text = step.text }

abbrev pub fault : Transfers → Reason → Step Transfers
fault s reason = on s (at_fault s.recording reason)

-- a result that is a fault: reading begins after it
abbrev pub faulty_result : Transfers → Reason → Step Transfers
faulty_result s reason = on s (at_fault_ending s.recording reason true)

abbrev pub with_recording : Transfers → Recording → Step Transfers
with_recording s recording = quietly (record s { recording = recording })

-- the recording with such bytes on the wire
abbrev pub with_wire : Recording → List WireByte → Recording
with_wire recording wire = record recording { wire = record { items = wire } }

-- ---- events

-- `smbus_write` and `smbus_read` begin a transfer, and cut the one under way.
abbrev pub begin : Transfers → List ℕ → Transfer → Step Transfers
begin s time transfer = record {
  now = record s { recording = (at_begin s.recording time).now; transfer = transfer };
  text = (at_begin s.recording time).text;
}

-- Address, command code, protocol and the flag 0004 are the same in all events of a transfer.
abbrev pub same_head : Head → Head → Bool
same_head a b =
    a.address == b.address
    && (a.command == b.command && (is_protocol a.protocol b.protocol && same a.has_code b.has_code))

-- A reply follows a read or a call, once.
abbrev pub may_reply : Transfer → Head → Bool
may_reply t head = same_head head t.head && (not t.has_reply && has_read_leg t)

abbrev pub with_reply : Transfer → List ℕ → Bool → Transfer
with_reply t bytes hides = record t { has_reply = true; reply = record { items = bytes }; is_reply_hidden = hides }

abbrev pub replied : Transfers → List ℕ → Bool → Transfers
replied s bytes hides = record s { recording = given s.recording; transfer = with_reply s.transfer bytes hides }

abbrev pub reply : Transfers → Head → List ℕ → Bool → Step Transfers
reply s head bytes hides =
    if may_reply s.transfer head then quietly (replied s bytes hides) else fault s DoesNotFollow

-- A result has the direction of its transfer. That of a call is any.
abbrev pub may_end : Transfer → Head → Bool → Bool
may_end t head writes = same_head head t.head && (is_call t.head.protocol || same t.writes writes)

-- A result that writes ends a transfer without a reply, and one that reads a transfer with it.
abbrev pub has_its_reply : Transfer → Bool → Bool
has_its_reply t writes = same t.has_reply (not writes)

-- Bytes of the transfer are needed, and the recording does not show them.
abbrev pub lacks_bytes : Transfer → Bool
lacks_bytes t = t.is_hidden || t.is_reply_hidden

-- It read, and the recording has no reply: a call whose result writes.
abbrev pub lacks_reply : Transfer → Bool → Bool
lacks_reply t writes = is_call t.head.protocol && writes

-- The kernel does not show an error code, and sets the flag 0004 on adapters without them too. So those that are
-- written are counted.
abbrev pub counted_code : Transfers → Transfers
counted_code s =
    if has_code_byte s.transfer.head then record s { error_codes = capped (s.error_codes + 1) } else s

-- all else of it is shown
abbrev pub whole : Transfers → Step Transfers
whole s = on (counted_code s) (at_packet (with_wire s.recording (packet_wire s.transfer)))

-- A transfer that went through is a packet, where the recording shows all of it.
abbrev pub went_through : Transfers → Bool → Step Transfers
went_through s writes =
    if not (has_its_reply s.transfer writes) then faulty_result s DoesNotFollow else
    if lacks_bytes s.transfer then on s (at_hidden_bytes s.recording) else
    if lacks_reply s.transfer writes then on s (at_hidden_reply s.recording) else
    whole s

-- One that failed is told with its legs.
abbrev pub failed : Transfers → List ℕ → Step Transfers
failed s result = on s (at_failure (with_wire s.recording (legs_wire s.transfer)) result)

-- A result below 0 has no value.
abbrev pub ends : Transfers → Bool → Outcome → Option ℕ → Step Transfers
ends s writes outcome None = failed s outcome.text
ends s writes outcome (Some value) = went_through s writes

abbrev pub take_result : Transfers → Head → Bool → Outcome → Step Transfers
take_result s head writes outcome =
    if may_end s.transfer head writes then ends s writes outcome outcome.value else faulty_result s DoesNotFollow

-- What can't begin a packet is skipped after a fault or a loss, and is a fault itself where no packet is under way.
abbrev pub stray : Transfers → Step Transfers
stray s = if s.recording.is_skipping then quietly s else fault s DoesNotFollow

-- a result ends what is skipped
abbrev pub stray_result : Transfers → Step Transfers
stray_result s =
    if s.recording.is_skipping then with_recording s (skipped s.recording) else faulty_result s DoesNotFollow

-- the first of two steps where a packet is under way, and else the second
abbrev pub within : Option PacketLines → Step Transfers → Step Transfers → Step Transfers
within (Some lines) inside outside = inside
within None inside outside = outside

-- an event that has no fault by itself
abbrev pub follow_says : Transfers → List ℕ → Says → Step Transfers
follow_says s time (Writes m) = begin s time (begun m.front.head true (bytes_shown m.bytes) (hides m))
follow_says s time (Reads front) = begin s time (begun front.head false [] false)
follow_says s time (Replies m) = within s.recording.packet (reply s m.front.head (bytes_shown m.bytes) (hides m)) (stray s)
follow_says s time (Result front writes outcome) =
    within s.recording.packet (take_result s front.head writes outcome) (stray_result s)
follow_says s time Unreadable = fault s MakesNoSense

abbrev pub is_result : Says → Bool
is_result (Writes m) = false
is_result (Reads front) = false
is_result (Replies m) = false
is_result (Result front writes outcome) = true
is_result Unreadable = false

-- the fault that an event has by itself: nothing is skipped after a result
abbrev pub own_step : Transfers → Bool → Reason → Step Transfers
own_step s true reason = faulty_result s reason
own_step s false reason = fault s reason

abbrev pub unless_fault : Transfers → Bool → Option Reason → Step Transfers → Step Transfers
unless_fault s ends (Some reason) step = own_step s ends reason
unless_fault s ends None step = step

abbrev pub follow : Transfers → List ℕ → Says → Step Transfers
follow s time says = unless_fault s (is_result says) (own_fault says) (follow_says s time says)

-- ---- lines

-- what an event of SMBus says by its fields; one of messages is of the other kind
abbrev pub says : EventName → List (List ℕ) → Option Says
says SmbusWrite fields = Some (with_front (message_of Writes) fields)
says SmbusRead fields = Some (with_front read_of fields)
says SmbusReply fields = Some (with_front (message_of Replies) fields)
says SmbusResult fields = Some (with_front result_of fields)
says name fields = None

-- nor is a line of SMBus that has the name of an event of messages too
abbrev pub event_says : line.Event → Option Says
event_says e = if e.has_other then None else says e.name e.fields

-- an event of the bus that is followed, or of another
abbrev pub on_bus : Transfers → List ℕ → List ℕ → Says → Step Transfers
on_bus s bus time said =
    if is_followed s.recording bus then follow s time said else with_recording s (past_other_bus s.recording)

-- The first bus that can be read is followed.
abbrev pub if_bus : Transfers → Option (List ℕ) → List ℕ → Says → Step Transfers
if_bus s None time said = fault s MakesNoSense
if_bus s (Some bus) time said = on_bus (record s { recording = following s.recording bus }) bus time said

-- an event, by what it says if it is one of SMBus
abbrev pub event : Transfers → line.Event → Option Says → Step Transfers
event s e None = with_recording s (past_other_kind s.recording)
event s e (Some said) = if_bus s (event_bus e.fields) (line.event_time e.front) said

abbrev pub take_said : Transfers → line.TraceLine → Step Transfers
take_said s line.Nothing = quietly s
take_said s line.Heading = on s (at_heading s.recording)
take_said s (line.Lost count) = on s (at_loss s.recording count)
take_said s (line.Says e) = event s e (event_says e)

-- what a line holds: one that is too long, or lacks its LF, is a fault
abbrev pub take_content : Transfers → Option (List ℕ) → Step Transfers
take_content s None = fault s MakesNoSense
take_content s (Some text) = take_said s (line.trace_line text)

-- the next line of the recording
abbrev pub take_line : Transfers → TextLine → Step Transfers
take_line s given =
    take_content (record s { recording = next_line s.recording }) (content (s.recording.line == 0) given)

-- how many error codes were computed: nothing is told where there is none
abbrev pub error_codes_line : ℕ → List ℕ
error_codes_line count =
    if count == 0 then [] else
    comment (decimal count ++ codes " error codes are computed, since the recording shows none")

-- the end of the recording
abbrev pub take_end : Transfers → Step Transfers
take_end s = record {
  now = (on s (at_end s.recording (Some I2c))).now;
  text = (at_end s.recording (Some I2c)).text ++ error_codes_line s.error_codes;
}
