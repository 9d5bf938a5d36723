-- The four classes of the lines of a recording, and what becomes of a line of each.
use Rattle.std.specs.Prelude.{◌≡◌, ℕ, ◌<◌, ◌==◌, true, false, Bool, Option, Some, None, is_some, List, [], ◌++◌, ◌⊎◌}
use Rattle.std.specs.Prelude.{if◌then◌else◌}
use Rattle.pmb_io.specs.Lines.{TextLine}
use Rattle.pmb_recording.specs.Classes.{LineClass, GivesEvents, SaysNothing, PassedOver, IsFault, given_if}
use Rattle.pmb_recording.specs.Content.{content}
use Rattle.pmb_recording.specs.Recording.{Step, cut_text, first_line, is_followed, next_line}
use Rattle.pmb_recording.specs.Recording.{past_other_bus, quietly}
use Rattle.pmb_recording.specs.Told.{Reason, DoesNotFollow, at_line, packet_text, reason_text, time_line, too_long_line}
use Rattle.pmb_recording.specs.declared.recording.PacketLines.{PacketLines}
use Rattle.pmb_sigrok.specs.Packets.{is_answered, next_place, said, settling, take_line}
use Rattle.pmb_sigrok.specs.declared.sigrok.Sigrok.{Sigrok}
use Rattle.pmb_sigrok_line.specs.Line as line
use Rattle.pmb_sigrok_line.specs.declared.event.Event.{Event}
use Rattle.pmb_sigrok_line.specs.declared.event.Event.TheVariants.{Start, Stop}

-- ---- the class of a line

-- whether an event may stand in the packet under way
abbrev pub may_follow : Sigrok → Event → Bool
may_follow s Stop = is_answered s.place
may_follow s event = is_some (next_place s.place event)

-- whether it may stand where it does: in the packet under way, or among what is skipped
abbrev pub may_stand : Option PacketLines → Sigrok → Event → Bool
may_stand (Some lines) s event = may_follow s event
may_stand None s event = s.recording.is_skipping

-- An event in range: START begins a packet wherever it stands.
abbrev pub class_of_event : Sigrok → Event → LineClass
class_of_event s Start = GivesEvents
class_of_event s event = given_if (may_stand s.recording.packet s event)

-- a line of the bus that is followed, by its event in range
abbrev pub class_of_said : Sigrok → Option Event → LineClass
class_of_said s (Some event) = class_of_event s event
class_of_said s None = IsFault

-- a line with the bus that it names
abbrev pub class_on_bus : Sigrok → line.Line → LineClass
class_on_bus s l = if is_followed s.recording l.name then class_of_said s (said s.form l.event) else PassedOver

-- Before the bus is settled a line is of none.
abbrev pub class_of_settled : Sigrok → line.Line → LineClass
class_of_settled s l = if s.recording.follows_bus then class_on_bus s l else IsFault

-- a line that is no remark: the first that says an event settles the bus
abbrev pub class_of_decoded : Sigrok → Option line.Line → LineClass
class_of_decoded s (Some l) = class_of_settled (settling s l l.event) l
class_of_decoded s None = IsFault

-- The class of a line by what it holds, which is nothing where it is too long or lacks its LF.
abbrev pub class_of : Sigrok → Option (List ℕ) → LineClass
class_of s (Some text) = if line.is_remark text then SaysNothing else class_of_decoded s (line.decoder_line text)
class_of s None = IsFault

-- ---- what becomes of it

-- What is told where a line gives an event: nothing, the packet that START cuts, the whole packet, or that it is too
-- long. No fault is among these.
pub data GivenText (s : Sigrok) (text : List ℕ) : Type 0 where
  Nothing : text ≡ [] → GivenText s text
  Cut : text ≡ cut_text s.recording.packet → GivenText s text
  Packet : text ≡ time_line s.recording.time.items ++ packet_text s.recording.wire.items → GivenText s text
  TooLong : text ≡ too_long_line s.recording.line (first_line s.recording.packet) → GivenText s text

-- A fault: it is told with its line and a reason, after the packet that it cuts, and counted. No packet is under way
-- after it, and lines that can't begin one are skipped, but behind a STOP that does not follow.
pub record Faulted (s : Sigrok) (step : Step Sigrok) : Type 0 where
  pub reason : Reason
  pub told : step.text ≡ cut_text s.recording.packet ++ at_line s.recording.line (reason_text reason)
  pub is_counted : 0 < step.now.recording.troubles
  pub is_gone : step.now.recording.packet ≡ None
  pub skips : (step.now.recording.is_skipping ≡ true)
      ⊎ ((reason ≡ DoesNotFollow) × (step.now.recording.is_skipping ≡ false))

-- A step does what a class says. A line that says nothing changes nothing, and one of another bus only the count of
-- those; neither tells anything.
abbrev pub DoesAs : LineClass → Sigrok → Step Sigrok → Type 0
DoesAs GivesEvents s step = GivenText s step.text
DoesAs SaysNothing s step = step ≡ quietly s
DoesAs PassedOver s step = step ≡ quietly (record s { recording = past_other_bus s.recording })
DoesAs IsFault s step = Faulted s step

-- the machine at its next line
abbrev pub at_next_line : Sigrok → Sigrok
at_next_line s = record s { recording = next_line s.recording }

-- the class of a line of the input
abbrev pub class_of_line : Sigrok → TextLine → LineClass
class_of_line s given = class_of (at_next_line s) (content (s.recording.line == 0) given)

-- Each line has one class, and what becomes of it is what its class says.
abbrev pub EachLineHasItsClass : Type 0
EachLineHasItsClass =
    (s : Sigrok) (given : TextLine) → DoesAs (class_of_line s given) (at_next_line s) (take_line s given)
