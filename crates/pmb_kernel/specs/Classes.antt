-- The four classes of the lines of a recording, and what becomes of a line of each.
use Rattle.std.specs.Prelude.{◌≡◌, ℕ, ◌<◌, ◌==◌, ◌&&◌, true, false, not, Bool, Option, Some, None, List, [], ◌∷◌, ◌++◌}
use Rattle.std.specs.Prelude.{drop, if◌then◌else◌, is_some}
use Rattle.pmb_io.specs.Lines.{TextLine}
use Rattle.pmb_recording.specs.Classes.{LineClass, GivesEvents, SaysNothing, PassedOver, IsFault, given_if}
use Rattle.pmb_recording.specs.Content.{content}
use Rattle.pmb_recording.specs.Recording.{Step, at_heading, at_loss, cut_text, first_line, following, is_followed}
use Rattle.pmb_recording.specs.Recording.{past_other_bus, past_other_kind, quietly}
use Rattle.pmb_recording.specs.Told.{Reason, at_line, failed_line, packet_text, reason_text, time_line, too_long_line}
use Rattle.pmb_recording.specs.declared.recording.PacketLines.{PacketLines}
use Rattle.pmb_trace.specs.Fields.{event_bus}
use Rattle.pmb_trace.specs.Line as line
use Rattle.pmb_kernel.specs.Events.{Message, Writes, Reads, Replies, Says, OfMessage, Result, Unreadable}
use Rattle.pmb_kernel.specs.Events.{own_fault, says}
use Rattle.pmb_kernel.specs.Transfers.{at_next_line, begins, is_next, is_of_messages, is_reply_to, on, result_follows}
use Rattle.pmb_kernel.specs.Transfers.{take_line}
use Rattle.pmb_kernel.specs.declared.transfers.Read.{Read}
use Rattle.pmb_kernel.specs.declared.transfers.Transfers.{Transfers}

-- ---- the class of a line

-- whether the next message that waits for its reply has it in this message
abbrev pub replies_first : Message → List Read → Bool
replies_first m [] = false
replies_first m (read ∷ reads) = is_reply_to read m

-- whether a message, or a reply, follows those of the transfer under way
abbrev pub message_follows : Transfers → Message → Bool
message_follows t m = elim m.role [
  | Writes ↦ is_next t m
  | Reads ↦ is_next t m
  | Replies ↦ replies_first m (drop t.replies t.reads.items)
]

-- It follows those of the transfer under way, or is skipped where there is none.
abbrev pub may_stand : Option PacketLines → Bool → Bool → Bool
may_stand (Some lines) follows is_skipping = follows
may_stand None follows is_skipping = is_skipping

-- The first message begins a transfer wherever it stands.
abbrev pub class_of_message : Transfers → Message → LineClass
class_of_message t m =
    if begins m.role m.number then GivesEvents else
    given_if (may_stand t.recording.packet (message_follows t m) t.recording.is_skipping)

abbrev pub unless_own : Option Reason → LineClass → LineClass
unless_own (Some reason) c = IsFault
unless_own None c = c

-- the class of an event of the bus that is followed, by what it says
abbrev pub class_of_said : Transfers → Says → LineClass
class_of_said t (OfMessage m) = unless_own (own_fault m) (class_of_message t m)
class_of_said t (Result count outcome) =
    given_if (may_stand t.recording.packet (result_follows t count outcome) t.recording.is_skipping)
class_of_said t Unreadable = IsFault

-- of an event with the bus that it names
abbrev pub class_on_bus : Transfers → List ℕ → Says → LineClass
class_on_bus t bus said = if is_followed t.recording bus then class_of_said t said else PassedOver

-- the first bus that can be read is followed
abbrev pub class_if_bus : Transfers → Option (List ℕ) → Says → LineClass
class_if_bus t (Some bus) said = class_on_bus (record t { recording = following t.recording bus }) bus said
class_if_bus t None said = IsFault

abbrev pub class_of_event : Transfers → line.Event → LineClass
class_of_event t e =
    if is_of_messages (line.kind_of e.name) e.has_other then
    class_if_bus t (event_bus e.fields) (says e.name e.fields)
    else PassedOver

-- by what a line says
abbrev pub class_of_trace : Transfers → line.TraceLine → LineClass
class_of_trace t line.Nothing = SaysNothing
class_of_trace t line.Heading = SaysNothing
class_of_trace t (line.Lost count) = SaysNothing
class_of_trace t (line.Says e) = class_of_event t e

-- The class of a line by what it holds, which is nothing where it is too long or lacks its LF.
abbrev pub class_of : Transfers → Option (List ℕ) → LineClass
class_of t (Some text) = class_of_trace t (line.trace_line text)
class_of t None = IsFault

-- ---- what becomes of it

-- What is told where a line gives an event: nothing, the packet that `#0` cuts, the whole packet, that the transfer
-- failed, or that the packet is too long, also where it begins in this line. No fault is among these.
pub data GivenText (t : Transfers) (text : List ℕ) : Type 0 where
  Nothing : text ≡ [] → GivenText t text
  Cut : text ≡ cut_text t.recording.packet → GivenText t text
  Packet : text ≡ time_line t.recording.time.items ++ packet_text t.recording.wire.items → GivenText t text
  Failed : (outcome : List ℕ) → text ≡ failed_line t.recording.line outcome t.recording.wire.items → GivenText t text
  TooLong : text ≡ too_long_line t.recording.line (first_line t.recording.packet) → GivenText t text
  CutTooLong : text ≡ cut_text t.recording.packet ++ too_long_line t.recording.line t.recording.line → GivenText t text

-- A line that says nothing of the bus changes nothing, or the recording begins anew with it, or it tells of a loss.
pub data Unsaid (t : Transfers) (step : Step Transfers) : Type 0 where
  Quiet : step ≡ quietly t → Unsaid t step
  Heading : step ≡ on t (at_heading t.recording) → Unsaid t step
  Loss : (count : Option (List ℕ)) → step ≡ on t (at_loss t.recording count) → Unsaid t step

-- A line of another bus, or of another kind of events, changes only the count of those, and tells nothing.
pub data Passed (t : Transfers) (step : Step Transfers) : Type 0 where
  OtherBus : step ≡ quietly (record t { recording = past_other_bus t.recording }) → Passed t step
  OtherKind : step ≡ quietly (record t { recording = past_other_kind t.recording }) → Passed t step

-- whether a line is a result whose bus can be read
abbrev pub says_result : Says → Bool
says_result (OfMessage m) = false
says_result (Result count outcome) = true
says_result Unreadable = false

abbrev pub is_result : line.TraceLine → Bool
is_result line.Nothing = false
is_result line.Heading = false
is_result (line.Lost count) = false
is_result (line.Says e) = is_some (event_bus e.fields) && says_result (says e.name e.fields)

abbrev pub holds_result : Option (List ℕ) → Bool
holds_result (Some text) = is_result (line.trace_line text)
holds_result None = false

-- A fault: it is told with its line and a reason, after the packet that it cuts, and counted. No packet is under way
-- after it, and lines that can't begin one are skipped, unless it is a result itself.
pub record Faulted (ends : Bool) (t : Transfers) (step : Step Transfers) : Type 0 where
  pub reason : Reason
  pub told : step.text ≡ cut_text t.recording.packet ++ at_line t.recording.line (reason_text reason)
  pub is_counted : 0 < step.now.recording.troubles
  pub is_gone : step.now.recording.packet ≡ None
  pub skips : step.now.recording.is_skipping ≡ not ends

-- A step does what a class says; `ends` tells a result.
abbrev pub DoesAs : LineClass → Bool → Transfers → Step Transfers → Type 0
DoesAs GivesEvents ends t step = GivenText t step.text
DoesAs SaysNothing ends t step = Unsaid t step
DoesAs PassedOver ends t step = Passed t step
DoesAs IsFault ends t step = Faulted ends t step

-- the class of a line of the input
abbrev pub class_of_line : Transfers → TextLine → LineClass
class_of_line t given = class_of (at_next_line t) (content (t.recording.line == 0) given)

-- whether it is a result
abbrev pub is_result_line : Transfers → TextLine → Bool
is_result_line t given = holds_result (content (t.recording.line == 0) given)

-- Each line has one class, and what becomes of it is what its class says.
abbrev pub EachLineHasItsClass : Type 0
EachLineHasItsClass =
    (t : Transfers) (given : TextLine)
    → DoesAs (class_of_line t given) (is_result_line t given) (at_next_line t) (take_line t given)
