-- The four classes of the lines of a recording, and what becomes of a line of each.
use Rattle.std.specs.Prelude.{◌≡◌, ℕ, ◌<◌, ◌==◌, not, true, false, Bool, Option, Some, None, List, [], ◌∷◌, ◌++◌, ◌⊎◌}
use Rattle.std.specs.Prelude.{if◌then◌else◌}
use Rattle.std.specs.Str.{bytes_eq}
use Rattle.pmb_csv.specs.Fields.{Record, record_of}
use Rattle.pmb_io.specs.Lines.{TextLine}
use Rattle.pmb_recording.specs.Classes.{LineClass, GivesEvents, SaysNothing, PassedOver, IsFault, given_if}
use Rattle.pmb_recording.specs.Content.{content}
use Rattle.pmb_recording.specs.Recording.{Step, cut_text, first_line, following, is_followed, next_line}
use Rattle.pmb_recording.specs.Recording.{past_other_bus, quietly}
use Rattle.pmb_recording.specs.Told.{Reason, DoesNotFollow, at_line, packet_text, reason_text, time_line, too_long_line}
use Rattle.pmb_recording.specs.declared.recording.PacketLines.{PacketLines}
use Rattle.pmb_recording.specs.declared.recording.Recording.{Recording}
use Rattle.pmb_saleae.specs.Columns.{heading_of}
use Rattle.pmb_saleae.specs.Packets.{take_line, with_radix}
use Rattle.pmb_saleae.specs.Row.{is_row, lost_front, name_of}
use Rattle.pmb_saleae.specs.Table.{event_of}
use Rattle.pmb_saleae.specs.declared.columns.Columns.{Columns}
use Rattle.pmb_saleae.specs.declared.event.Event.{Event}
use Rattle.pmb_saleae.specs.declared.event.Event.TheVariants.{Start, Stop, Address, Data}
use Rattle.pmb_saleae.specs.declared.saleae.Saleae.{Saleae}

-- ---- the class of a line

-- Whether an event may stand where it does. In the packet under way an address follows START alone, and all others
-- follow a byte. Outside of one START begins a packet or is skipped, and others have to be skipped.
abbrev pub may_stand : Option PacketLines → Saleae → Event → Bool
may_stand (Some lines) t Start = not t.is_at_start
may_stand (Some lines) t Stop = not t.is_at_start
may_stand (Some lines) t (Address b) = t.is_at_start
may_stand (Some lines) t (Data b) = not t.is_at_start
may_stand None t Start = true
may_stand None t Stop = t.recording.is_skipping
may_stand None t (Address b) = t.recording.is_skipping
may_stand None t (Data b) = t.recording.is_skipping

-- what a row gives, if that makes sense
abbrev pub class_of_said : Saleae → Option Event → LineClass
class_of_said t (Some event) = given_if (may_stand t.recording.packet t event)
class_of_said t None = IsFault

-- a row of the analyzer that is followed
abbrev pub class_of_row : Saleae → Columns → Record → LineClass
class_of_row t columns r =
    class_of_said (with_radix t columns r) (event_of (with_radix t columns r).radix columns r)

-- a row of an analyzer: the first that names one settles which is followed
abbrev pub class_on_bus : Saleae → List ℕ → Columns → Record → LineClass
class_on_bus t name columns r =
    if is_followed t.recording name then class_of_row t columns r else
    if lost_front t.recording.bus.items name then IsFault else PassedOver

abbrev pub class_of_named : Saleae → List ℕ → Columns → Record → LineClass
class_of_named t name columns r =
    if bytes_eq name [] then IsFault else
    class_on_bus (record t { recording = following t.recording name }) name columns r

-- A line under the columns of a heading has as many fields, or is a fault.
abbrev pub class_under : Saleae → Option Columns → Record → LineClass
class_under t (Some columns) r =
    if is_row columns r then class_of_named t (name_of columns r) columns r else IsFault
class_under t None r = IsFault

-- a line that is not blank
abbrev pub class_of_record : Saleae → Option Columns → Record → LineClass
class_of_record t (Some columns) r = SaysNothing
class_of_record t None r = class_under t t.columns r

-- The class of a line by what it holds, which is nothing where it is too long or lacks its LF.
abbrev pub class_of : Saleae → Option (List ℕ) → LineClass
class_of t None = IsFault
class_of t (Some []) = SaysNothing
class_of t (Some (byte ∷ line)) =
    class_of_record t (heading_of (record_of (byte ∷ line))) (record_of (byte ∷ line))

-- ---- what becomes of it

-- What is told where a line gives an event: nothing, the whole packet, or that it is too long. No fault is among these,
-- and no packet is cut.
pub data GivenText (before : Recording) (text : List ℕ) : Type 0 where
  Nothing : text ≡ [] → GivenText before text
  Packet : text ≡ time_line before.time.items ++ packet_text before.wire.items → GivenText before text
  TooLong : text ≡ too_long_line before.line (first_line before.packet) → GivenText before text

-- A heading: it is told which packet it cuts, and nothing else. Reading begins at once, by its columns.
pub record Headed (before : Recording) (columns : Columns) (step : Step Saleae) : Type 0 where
  pub told : step.text ≡ cut_text before.packet
  pub is_gone : step.now.recording.packet ≡ None
  pub reads : step.now.recording.is_skipping ≡ false
  pub columns_are : step.now.columns ≡ Some columns

-- A blank line changes nothing, and tells nothing.
pub data SaidNothing (t : Saleae) (step : Step Saleae) : Type 0 where
  Blank : step ≡ quietly t → SaidNothing t step
  Heading : (columns : Columns) → Headed t.recording columns step → SaidNothing t step

-- A fault: it is told with its line and a reason, after the packet that it cuts, and counted. No packet is under way
-- after it. What follows is skipped, but for what follows a STOP that does not follow.
pub record Faulted (before : Recording) (step : Step Saleae) : Type 0 where
  pub reason : Reason
  pub told : step.text ≡ cut_text before.packet ++ at_line before.line (reason_text reason)
  pub is_counted : 0 < step.now.recording.troubles
  pub is_gone : step.now.recording.packet ≡ None
  pub skips : (step.now.recording.is_skipping ≡ true)
      ⊎ ((reason ≡ DoesNotFollow) × (step.now.recording.is_skipping ≡ false))

-- A step does what a class says. A line of another bus changes only the count of those, and tells nothing.
abbrev pub DoesAs : LineClass → Saleae → Step Saleae → Type 0
DoesAs GivesEvents t step = GivenText t.recording step.text
DoesAs SaysNothing t step = SaidNothing t step
DoesAs PassedOver t step = step ≡ quietly (record t { recording = past_other_bus t.recording })
DoesAs IsFault t step = Faulted t.recording step

-- the machine at its next line
abbrev pub at_next_line : Saleae → Saleae
at_next_line t = record t { recording = next_line t.recording }

-- the class of a line of the input
abbrev pub class_of_line : Saleae → TextLine → LineClass
class_of_line t given = class_of (at_next_line t) (content (t.recording.line == 0) given)

-- Each line has one class, and what becomes of it is what its class says.
abbrev pub EachLineHasItsClass : Type 0
EachLineHasItsClass =
    (t : Saleae) (given : TextLine) → DoesAs (class_of_line t given) (at_next_line t) (take_line t given)
