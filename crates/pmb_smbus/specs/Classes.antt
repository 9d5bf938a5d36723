-- The four classes of the lines of a recording, and what becomes of a line of each.
use Rattle.std.specs.Prelude.{◌≡◌, ℕ, ◌<◌, ◌==◌, ◌&&◌, ◌||◌, true, false, Bool, Option, Some, None, is_none, List, []}
use Rattle.std.specs.Prelude.{◌++◌, if◌then◌else◌, is_some, not}
use Rattle.pmb_io.specs.Lines.{TextLine}
use Rattle.pmb_recording.specs.Classes.{LineClass, GivesEvents, SaysNothing, PassedOver, IsFault, given_if}
use Rattle.pmb_recording.specs.Content.{content}
use Rattle.pmb_recording.specs.Recording.{Step, at_heading, at_loss, cut_text, first_line, following, is_followed}
use Rattle.pmb_recording.specs.Recording.{next_line, past_other_bus, past_other_kind, quietly}
use Rattle.pmb_recording.specs.Told.{Reason, at_line, bytes_hidden_line, failed_line, packet_text, reason_text}
use Rattle.pmb_recording.specs.Told.{reply_hidden_line, time_line}
use Rattle.pmb_recording.specs.declared.recording.PacketLines.{PacketLines}
use Rattle.pmb_trace.specs.Fields.{event_bus}
use Rattle.pmb_trace.specs.Line as line
use Rattle.pmb_smbus.specs.Events.{Replies, Reads, Result, Says, Unreadable, Writes, own_fault}
use Rattle.pmb_smbus.specs.Packets.{legs_wire, packet_wire}
use Rattle.pmb_smbus.specs.Transfers.{event_says, has_its_reply, is_result, may_end, may_reply, on, take_line}
use Rattle.pmb_smbus.specs.Transfers.{with_recording}
use Rattle.pmb_smbus.specs.declared.events.Head.{Head}
use Rattle.pmb_smbus.specs.declared.transfers.Transfers.{Transfers}

-- ---- the class of a line

-- whether a result may end the transfer: one that went through has its reply
abbrev pub may_result : Transfers → Head → Bool → Option ℕ → Bool
may_result s head writes value = may_end s.transfer head writes && (is_none value || has_its_reply s.transfer writes)

-- Whether an event may stand where it does: in the packet under way, or among what is skipped. One that begins a
-- packet may stand anywhere.
abbrev pub may_stand : Option PacketLines → Transfers → Says → Bool
may_stand packet s (Writes m) = true
may_stand packet s (Reads front) = true
may_stand packet s Unreadable = false
may_stand (Some lines) s (Replies m) = may_reply s.transfer m.front.head
may_stand (Some lines) s (Result front writes outcome) = may_result s front.head writes outcome.value
may_stand None s said = s.recording.is_skipping

-- a line of the bus that is followed: an event that has no fault by itself, and may stand there
abbrev pub class_of_own : Transfers → Says → LineClass
class_of_own s said = given_if (is_none (own_fault said) && may_stand s.recording.packet s said)

abbrev pub class_on_bus : Transfers → List ℕ → Says → LineClass
class_on_bus s bus said = if is_followed s.recording bus then class_of_own s said else PassedOver

-- The first bus that can be read is followed.
abbrev pub class_of_bus : Transfers → Option (List ℕ) → Says → LineClass
class_of_bus s (Some bus) said = class_on_bus (record s { recording = following s.recording bus }) bus said
class_of_bus s None said = IsFault

abbrev pub class_of_event : Transfers → line.Event → Option Says → LineClass
class_of_event s e (Some said) = class_of_bus s (event_bus e.fields) said
class_of_event s e None = PassedOver

abbrev pub class_of_said : Transfers → line.TraceLine → LineClass
class_of_said s (line.Says e) = class_of_event s e (event_says e)
class_of_said s said = SaysNothing

-- the class of a line by what it holds, which is nothing where it is too long or lacks its LF
abbrev pub class_of : Transfers → Option (List ℕ) → LineClass
class_of s (Some text) = class_of_said s (line.trace_line text)
class_of s None = IsFault

-- ---- what becomes of it

-- What is told where a line gives an event: nothing, the packet that it cuts, the whole packet, that the transfer
-- failed, or that its bytes or its reply are not shown. No fault is among these.
pub data GivenText (s : Transfers) (text : List ℕ) : Type 0 where
  Nothing : text ≡ [] → GivenText s text
  Cut : text ≡ cut_text s.recording.packet → GivenText s text
  Packet : text ≡ time_line s.recording.time.items ++ packet_text (packet_wire s.transfer) → GivenText s text
  Failed : (result : List ℕ) → text ≡ failed_line s.recording.line result (legs_wire s.transfer) → GivenText s text
  BytesHidden : text ≡ bytes_hidden_line s.recording.line (first_line s.recording.packet) → GivenText s text
  ReplyHidden : text ≡ reply_hidden_line s.recording.line (first_line s.recording.packet) → GivenText s text

-- What becomes of a line that says nothing of the bus: nothing, or a heading, or lost events.
pub data Unsaid (s : Transfers) (step : Step Transfers) : Type 0 where
  Silent : step ≡ quietly s → Unsaid s step
  Heading : step ≡ on s (at_heading s.recording) → Unsaid s step
  Lost : (count : Option (List ℕ)) → step ≡ on s (at_loss s.recording count) → Unsaid s step

-- A line that is passed over is counted, and changes nothing else.
pub data Passed (s : Transfers) (step : Step Transfers) : Type 0 where
  OtherBus : step ≡ with_recording s (past_other_bus s.recording) → Passed s step
  OtherKind : step ≡ with_recording s (past_other_kind s.recording) → Passed s step

-- whether a line is a result whose bus can be read
abbrev pub ends_event : List (List ℕ) → Option Says → Bool
ends_event fields (Some said) = is_some (event_bus fields) && is_result said
ends_event fields None = false

abbrev pub ends_line : line.TraceLine → Bool
ends_line line.Nothing = false
ends_line line.Heading = false
ends_line (line.Lost count) = false
ends_line (line.Says e) = ends_event e.fields (event_says e)

abbrev pub holds_result : Option (List ℕ) → Bool
holds_result (Some text) = ends_line (line.trace_line text)
holds_result None = false

-- A fault: it is told with its line and a reason, after the packet that it cuts, and counted. No packet is under way
-- after it, and lines that can't begin one are skipped, unless it is a result itself.
pub record Faulted (ends : Bool) (s : Transfers) (step : Step Transfers) : Type 0 where
  pub reason : Reason
  pub told : step.text ≡ cut_text s.recording.packet ++ at_line s.recording.line (reason_text reason)
  pub is_counted : 0 < step.now.recording.troubles
  pub is_gone : step.now.recording.packet ≡ None
  pub skips : step.now.recording.is_skipping ≡ not ends

-- A step does what a class says; `ends` tells a result.
abbrev pub DoesAs : LineClass → Bool → Transfers → Step Transfers → Type 0
DoesAs GivesEvents ends s step = GivenText s step.text
DoesAs SaysNothing ends s step = Unsaid s step
DoesAs PassedOver ends s step = Passed s step
DoesAs IsFault ends s step = Faulted ends s step

-- the transfers at the next line
abbrev pub at_next_line : Transfers → Transfers
at_next_line s = record s { recording = next_line s.recording }

-- the class of a line of the input
abbrev pub class_of_line : Transfers → TextLine → LineClass
class_of_line s given = class_of (at_next_line s) (content (s.recording.line == 0) given)

-- whether it is a result
abbrev pub is_result_line : Transfers → TextLine → Bool
is_result_line s given = holds_result (content (s.recording.line == 0) given)

-- Each line has one class, and what becomes of it is what its class says.
abbrev pub EachLineHasItsClass : Type 0
EachLineHasItsClass =
    (s : Transfers) (given : TextLine)
    → DoesAs (class_of_line s given) (is_result_line s given) (at_next_line s) (take_line s given)
