-- What becomes of a transfer, event by event, and what is told.
use Rattle.std.specs.Prelude.{ℕ, ◌+◌, ◌*◌, ◌==◌, ◌&&◌, true, false, Bool, Option, Some, None, nat_lt, nat_le}
use Rattle.std.specs.Prelude.{if◌then◌else◌, List, [], ◌∷◌, ◌++◌, length, take, drop, map, count_by, min}
use Rattle.pmb_io.specs.Count.{capped}
use Rattle.pmb_io.specs.Lines.{TextLine}
use Rattle.pmb_recording.specs.Content.{content}
use Rattle.pmb_recording.specs.declared.passed.Kind.TheVariants.{Smbus as OfSmbus}
use Rattle.pmb_recording.specs.Recording.{Step, at_begin, at_end, at_failure, at_fault, at_fault_ending, at_heading}
use Rattle.pmb_recording.specs.Recording.{at_loss, at_packet}
use Rattle.pmb_recording.specs.Recording.{at_too_long, following, fresh, given, is_followed, next_line, past_other_bus}
use Rattle.pmb_recording.specs.Recording.{past_other_kind, quietly, skipped}
use Rattle.pmb_recording.specs.Told.{Reason, DoesNotFollow, MakesNoSense}
use Rattle.pmb_recording.specs.Wire.{bit_of, most_wire}
use Rattle.pmb_recording.specs.declared.recording.Recording.{Recording}
use Rattle.pmb_recording.specs.declared.recording.PacketLines.{PacketLines}
use Rattle.pmb_recording.specs.declared.wire_byte.WireByte.{WireByte}
use Rattle.pmb_trace.specs.Fields.{Outcome, event_bus}
use Rattle.pmb_trace.specs.Line as line
use Rattle.pmb_trace.specs.declared.event_name.EventKind.{EventKind}
use Rattle.pmb_trace.specs.declared.event_name.EventKind.TheVariants.{I2c, Smbus}
use Rattle.pmb_kernel.specs.Events.{Message, Role, Writes, Reads, Replies, Says, OfMessage, Result, Unreadable}
use Rattle.pmb_kernel.specs.Events.{has, i2c_m_recv_len, own_fault, reads, says}
use Rattle.pmb_kernel.specs.declared.transfers.Transfers.{Transfers}
use Rattle.pmb_kernel.specs.declared.transfers.Read.{Read}

-- ---- bytes on the wire

-- the address of a message, after a START, with its direction in the lowest bit
abbrev pub address_byte : Message → WireByte
address_byte m = record {
  follows_start = true;
  byte = m.address * 2 + bit_of (reads m.role);
  is_acknowledged = true;
}

abbrev pub acknowledged : ℕ → WireByte
acknowledged byte = record { follows_start = false; byte = byte; is_acknowledged = true }

-- the last byte that is read
abbrev pub last_read : ℕ → WireByte
last_read byte = record { follows_start = false; byte = byte; is_acknowledged = false }

abbrev pub written_bytes : List ℕ → List WireByte
written_bytes bytes = map acknowledged bytes

-- bytes that are read: each but the last is acknowledged
abbrev pub read_bytes : List ℕ → List WireByte
read_bytes [] = []
read_bytes (byte ∷ []) = last_read byte ∷ []
read_bytes (byte ∷ next ∷ bytes) = acknowledged byte ∷ read_bytes (next ∷ bytes)

-- bytes that are put in after the first so many
abbrev pub put_in : ℕ → List WireByte → List WireByte → List WireByte
put_in at bytes wire = take at wire ++ (bytes ++ drop at wire)

-- ---- steps

-- what is told of the recording, and what that becomes
abbrev pub on : Transfers → Step Recording → Step Transfers
on t step = record { now = record t { recording = step.now }; text = step.text }

abbrev pub fault : Transfers → Reason → Step Transfers
fault t reason = on t (at_fault t.recording reason)

-- a result that is a fault: reading begins after it
abbrev pub faulty_result : Transfers → Reason → Step Transfers
faulty_result t reason = on t (at_fault_ending t.recording reason true)

abbrev pub too_long : Transfers → Step Transfers
too_long t = on t (at_too_long t.recording false)

-- the line gives an event of the packet under way
abbrev pub gives : Transfers → Transfers
gives t = record t { recording = given t.recording }

-- ---- messages

-- no message yet
abbrev pub no_transfer : Recording → Transfers
no_transfer r = record { recording = r; messages = 0; reads = record { items = [] }; replies = 0; replied = 0 }

-- A number in sixteen bits: 65,535 stands for what is greater. No packet has that many messages, and no line shows
-- that many bytes.
abbrev pub in_sixteen_bits : ℕ → ℕ
in_sixteen_bits number = min number 0xffff

-- what is kept of a message that reads, until its reply comes
abbrev pub read_of : ℕ → Message → Read
read_of at m = record {
  number = in_sixteen_bits m.number;
  address = m.address;
  flags = m.flags.value;
  length = in_sixteen_bits m.length.value;
  at = at;
}

abbrev pub with_read : Role → Read → List Read → List Read
with_read Writes read reads = reads
with_read Reads read reads = reads ++ read ∷ []
with_read Replies read reads = reads

-- the transfer with one more message
abbrev pub with_message : Transfers → Message → Transfers
with_message t m = record t {
  recording = record t.recording {
    wire = record { items = t.recording.wire.items ++ (address_byte m ∷ written_bytes m.bytes) };
  };
  messages = capped (t.messages + 1);
  reads = record {
    items = with_read m.role (read_of (length t.recording.wire.items + 1) m) t.reads.items;
  };
}

-- So many messages that read are kept until their replies come. (Linux takes 42 messages of a program.)
abbrev pub most_reads : ℕ
most_reads = 1024

-- Its bytes have room, and so would what is kept of one that reads.
abbrev pub has_room : Transfers → List ℕ → Bool
has_room t bytes =
    nat_le (length t.recording.wire.items + 1 + length bytes) most_wire && nat_lt (length t.reads.items) most_reads

abbrev pub add_message : Transfers → Message → Step Transfers
add_message t m = if has_room t m.bytes then quietly (with_message t m) else too_long t

-- A transfer begins.
abbrev pub begin : Transfers → List ℕ → Step Transfers
begin t time = record {
  now = no_transfer (at_begin t.recording time).now;
  text = (at_begin t.recording time).text;
}

-- its first message
abbrev pub first_message : Transfers → List ℕ → Message → Step Transfers
first_message t time m = record {
  now = (add_message (begin t time).now m).now;
  text = (begin t time).text ++ (add_message (begin t time).now m).text;
}

-- The next message has the next number, and comes before the replies.
abbrev pub is_next : Transfers → Message → Bool
is_next t m = m.number == t.messages && t.replies == 0

abbrev pub next_message : Transfers → Message → Step Transfers
next_message t m = if is_next t m then add_message (gives t) m else fault t DoesNotFollow

-- ---- replies

-- With I2C_M_RECV_LEN a reply is longer than what the message asks for, by its first byte.
abbrev pub is_longer_by : ℕ → ℕ → List ℕ → Bool
is_longer_by reply read [] = false
is_longer_by reply read (first ∷ bytes) = reply == read + first

abbrev pub has_length : Read → Message → Bool
has_length read m =
    if has read.flags i2c_m_recv_len then is_longer_by m.length.value read.length m.bytes else
    m.length.value == read.length

abbrev pub is_reply_to : Read → Message → Bool
is_reply_to read m =
    m.number == read.number && (m.address == read.address && (m.flags.value == read.flags && has_length read m))

-- What was read stands after the address of its message: the bytes of the replies before it are there already.
abbrev pub with_reply : Transfers → Read → List ℕ → Transfers
with_reply t read bytes = record t {
  recording = record t.recording {
    wire = record { items = put_in (read.at + t.replied) (read_bytes bytes) t.recording.wire.items };
  };
  replies = t.replies + 1;
  replied = capped (t.replied + length bytes);
}

abbrev pub add_reply : Transfers → Read → List ℕ → Step Transfers
add_reply t read bytes =
    if nat_le (length t.recording.wire.items + length bytes) most_wire then quietly (with_reply t read bytes) else
    too_long t

-- a reply, where a message waits for one
abbrev pub reply_to : Transfers → Read → Message → Step Transfers
reply_to t read m = if is_reply_to read m then add_reply (gives t) read m.bytes else fault t DoesNotFollow

-- the first of the messages that wait, if there is one
abbrev pub reply_to_first : Transfers → Message → List Read → Step Transfers
reply_to_first t m [] = fault t DoesNotFollow
reply_to_first t m (read ∷ reads) = reply_to t read m

abbrev pub reply : Transfers → Message → Step Transfers
reply t m = reply_to_first t m (drop t.replies t.reads.items)

-- ---- results

-- message i that reads has a reply where i is below the result
abbrev pub reads_below : ℕ → List Read → ℕ
reads_below count reads = count_by (λ (read : Read). nat_lt read.number count) reads

abbrev pub replies_due : Option ℕ → List Read → ℕ
replies_due (Some count) reads = reads_below count reads
replies_due None reads = 0

abbrev pub is_count : Option ℕ → ℕ → Bool
is_count (Some count) messages = count == messages
is_count None messages = false

abbrev pub end_transfer : Transfers → Outcome → Step Transfers
end_transfer t outcome =
    if is_count outcome.value t.messages then on t (at_packet t.recording) else
    on t (at_failure t.recording outcome.text)

abbrev pub result_follows : Transfers → ℕ → Outcome → Bool
result_follows t count outcome = count == t.messages && replies_due outcome.value t.reads.items == t.replies

abbrev pub result : Transfers → ℕ → Outcome → Step Transfers
result t count outcome =
    if result_follows t count outcome then end_transfer t outcome else faulty_result t DoesNotFollow

-- ---- events

-- Where no packet is under way, what can't begin one is skipped after a fault, and else is a fault itself.
abbrev pub stray : Transfers → Step Transfers
stray t = if t.recording.is_skipping then quietly t else fault t DoesNotFollow

-- a result ends what is skipped
abbrev pub stray_result : Transfers → Step Transfers
stray_result t =
    if t.recording.is_skipping then quietly (record t { recording = skipped t.recording }) else
    faulty_result t DoesNotFollow

abbrev pub within : Option PacketLines → Step Transfers → Step Transfers → Step Transfers
within (Some lines) inside outside = inside
within None inside outside = outside

-- The message `#0` begins a transfer, wherever it stands.
abbrev pub begins : Role → ℕ → Bool
begins Writes number = number == 0
begins Reads number = number == 0
begins Replies number = false

abbrev pub message_or_reply : Transfers → Message → Step Transfers
message_or_reply t m = elim m.role [
  | Writes ↦ next_message t m
  | Reads ↦ next_message t m
  | Replies ↦ reply t m
]

abbrev pub follow_message : Transfers → List ℕ → Message → Step Transfers
follow_message t time m =
    if begins m.role m.number then first_message t time m else
    within t.recording.packet (message_or_reply t m) (stray t)

abbrev pub unless_fault : Transfers → Option Reason → Step Transfers → Step Transfers
unless_fault t (Some reason) step = fault t reason
unless_fault t None step = step

abbrev pub follow_result : Transfers → ℕ → Outcome → Step Transfers
follow_result t count outcome = within t.recording.packet (result t count outcome) (stray_result t)

abbrev pub follow : Transfers → List ℕ → Says → Step Transfers
follow t time (OfMessage m) = unless_fault t (own_fault m) (follow_message t time m)
follow t time (Result count outcome) = follow_result t count outcome
follow t time Unreadable = fault t MakesNoSense

-- ---- lines

-- an event of the bus that is followed, or of another
abbrev pub on_bus : Transfers → List ℕ → List ℕ → Says → Step Transfers
on_bus t bus time said =
    if is_followed t.recording bus then follow t time said else
    quietly (record t { recording = past_other_bus t.recording })

-- The first bus that can be read is followed, if none was named.
abbrev pub if_bus : Transfers → Option (List ℕ) → List ℕ → Says → Step Transfers
if_bus t None time said = fault t MakesNoSense
if_bus t (Some bus) time said = on_bus (record t { recording = following t.recording bus }) bus time said

-- An event of SMBus is of the other kind, and so is one that the name of such an event follows.
abbrev pub is_of_messages : EventKind → Bool → Bool
is_of_messages I2c true = false
is_of_messages I2c false = true
is_of_messages Smbus has_other = false

abbrev pub event : Transfers → line.Event → Step Transfers
event t e =
    if is_of_messages (line.kind_of e.name) e.has_other then
    if_bus t (event_bus e.fields) (line.event_time e.front) (says e.name e.fields)
    else quietly (record t { recording = past_other_kind t.recording })

abbrev pub take_said : Transfers → line.TraceLine → Step Transfers
take_said t line.Nothing = quietly t
take_said t line.Heading = on t (at_heading t.recording)
take_said t (line.Lost count) = on t (at_loss t.recording count)
take_said t (line.Says e) = event t e

abbrev pub take_content : Transfers → Option (List ℕ) → Step Transfers
take_content t None = fault t MakesNoSense
take_content t (Some text) = take_said t (line.trace_line text)

-- the machine at its next line
abbrev pub at_next_line : Transfers → Transfers
at_next_line t = record t { recording = next_line t.recording }

-- the next line of the recording
abbrev pub take_line : Transfers → TextLine → Step Transfers
take_line t given = take_content (at_next_line t) (content (t.recording.line == 0) given)

-- the end of the recording
abbrev pub take_end : Transfers → Step Transfers
take_end t = on t (at_end t.recording (Some OfSmbus))

-- the start, with the bus that is followed, if one is named
abbrev pub start : Option (List ℕ) → Transfers
start bus = no_transfer (fresh bus)
