-- The classes of the lines of a recording, and what becomes of a line of each.
use Rattle.std.specs.Prelude.{◌≡◌, ◌⊎◌, ℕ, ◌<◌, ◌==◌, ◌||◌, not, false, Bool, Option, Some, None, List, [], ◌∷◌, ◌++◌}
use Rattle.std.specs.Prelude.{if◌then◌else◌}
use Rattle.pmb_beagle.specs.Columns.{heading_of, is_remark}
use Rattle.pmb_beagle.specs.Export.{Says, OfCapture, OfOther, OfTransaction, Transaction, ends_packet, field_if}
use Rattle.pmb_beagle.specs.Export.{index_of, is_marked, is_next, is_out_of_range, says_of, start_time}
use Rattle.pmb_beagle.specs.Packets.{take_line, wire_of}
use Rattle.pmb_beagle.specs.declared.beagle.Beagle.{Beagle}
use Rattle.pmb_beagle.specs.declared.columns.Columns.{Columns}
use Rattle.pmb_csv.specs.Fields.{Record, record_of}
use Rattle.pmb_io.specs.Lines.{TextLine}
use Rattle.pmb_recording.specs.Content.{content}
use Rattle.pmb_recording.specs.Recording.{Step, cut_text, first_line, next_line, quietly}
use Rattle.pmb_recording.specs.Told.{Reason, at_line, packet_text, reason_text, time_line, too_long_line}
use Rattle.pmb_recording.specs.declared.recording.PacketLines.{PacketLines}
use Rattle.pmb_recording.specs.declared.recording.Recording.{Recording}

-- Each line is one of these. There is one bus, so none is of another.
pub data RowClass : Type 0 where
  -- It gives a transaction with its time, also where that is skipped after a fault.
  GivesEvents : List ℕ → Transaction → RowClass
  -- It says nothing of the bus.
  SaysNothing : RowClass
  -- It can't be read, is marked, out of range, or contradicts lines before it; and it ends a packet, or does not.
  IsFault : Bool → RowClass

-- ---- the class of a line

-- A transaction that is not skipped has START: it goes on with the packet under way, or begins one.
abbrev pub may_follow : Option PacketLines → Recording → Transaction → Bool
may_follow (Some lines) now t = t.marks.has_start
may_follow None now t = now.is_skipping || t.marks.has_start

abbrev pub class_of_transaction : Recording → Columns → Record → Transaction → RowClass
class_of_transaction now columns r t =
    if is_marked (field_if columns.error r) then IsFault (ends_packet columns r) else
    if is_out_of_range columns r t then IsFault (ends_packet columns r) else
    if may_follow now.packet now t then GivesEvents (start_time columns r) t else IsFault t.marks.has_stop

-- a row that has its form, where no rows are missing
abbrev pub class_of_said : Recording → Columns → Record → Says → RowClass
class_of_said now columns r (OfTransaction t) = class_of_transaction now columns r t
class_of_said now columns r OfCapture = SaysNothing
class_of_said now columns r OfOther = IsFault (ends_packet columns r)

-- a row with a number, by whether that is one more than the last
abbrev pub class_of_next : Recording → Columns → Record → Bool → Option Says → RowClass
class_of_next now columns r next (Some says) =
    if next then class_of_said now columns r says else IsFault (ends_packet columns r)
class_of_next now columns r next None = IsFault (ends_packet columns r)

abbrev pub class_of_numbered : Beagle → Columns → Record → Option ℕ → RowClass
class_of_numbered b columns r (Some index) =
    class_of_next b.recording columns r (is_next b.index index) (says_of columns r)
class_of_numbered b columns r None = IsFault (ends_packet columns r)

-- a row, where its columns are known
abbrev pub class_under : Beagle → Option Columns → Record → RowClass
class_under b (Some columns) r = class_of_numbered b columns r (index_of columns r)
class_under b None r = IsFault false

abbrev pub class_of_other : Beagle → List ℕ → RowClass
class_of_other b line = if is_remark line then SaysNothing else class_under b b.columns (record_of line)

-- a line that names the columns, or another
abbrev pub class_by : Beagle → Option Columns → List ℕ → RowClass
class_by b (Some columns) line = SaysNothing
class_by b None line = class_of_other b line

-- The class of a line by what it holds, which is nothing where it is too long or lacks its LF.
abbrev pub class_of : Beagle → Option (List ℕ) → RowClass
class_of b (Some []) = SaysNothing
class_of b (Some (byte ∷ line)) = class_by b (heading_of (byte ∷ line)) (byte ∷ line)
class_of b None = IsFault false

-- ---- what becomes of it

-- What is told where a line gives a transaction: nothing, the whole packet that ends with it, or that this packet is
-- too long; the packet was under way, or began in this line. No fault is among these.
pub data GivenText (now : Recording) (time : List ℕ) (t : Transaction) (text : List ℕ) : Type 0 where
  Nothing : text ≡ [] → GivenText now time t text
  Ends : text ≡ time_line now.time.items ++ packet_text (now.wire.items ++ wire_of t) → GivenText now time t text
  Packet : text ≡ time_line time ++ packet_text (wire_of t) → GivenText now time t text
  TooLong : text ≡ too_long_line now.line (first_line now.packet) → GivenText now time t text
  PacketTooLong : text ≡ too_long_line now.line now.line → GivenText now time t text

-- The recording begins anew: nothing is told but that the packet under way is cut, and nothing is skipped after it.
pub record BeginsAnew (now : Recording) (step : Step Beagle) : Type 0 where
  pub told : step.text ≡ cut_text now.packet
  pub is_gone : step.now.recording.packet ≡ None
  pub skips : step.now.recording.is_skipping ≡ false

-- A fault: it is told with its line and a reason, after the packet that it cuts, and counted. No packet is under way
-- after it, and lines are skipped unless it ends a packet.
pub record Faulted (now : Recording) (ends : Bool) (step : Step Beagle) : Type 0 where
  pub reason : Reason
  pub told : step.text ≡ cut_text now.packet ++ at_line now.line (reason_text reason)
  pub is_counted : 0 < step.now.recording.troubles
  pub is_gone : step.now.recording.packet ≡ None
  pub skips : step.now.recording.is_skipping ≡ not ends

-- A step does what a class says. A line that says nothing changes nothing, or the recording begins anew.
abbrev pub DoesAs : RowClass → Beagle → Step Beagle → Type 0
DoesAs (GivesEvents time t) b step = GivenText b.recording time t step.text
DoesAs SaysNothing b step = (step ≡ quietly b) ⊎ BeginsAnew b.recording step
DoesAs (IsFault ends) b step = Faulted b.recording ends step

-- the machine at its next line
abbrev pub at_next_line : Beagle → Beagle
at_next_line b = record b { recording = next_line b.recording }

-- the class of a line of the input
abbrev pub class_of_line : Beagle → TextLine → RowClass
class_of_line b given = class_of (at_next_line b) (content (b.recording.line == 0) given)

-- Each line has one class, and what becomes of it is what its class says.
abbrev pub EachLineHasItsClass : Type 0
EachLineHasItsClass =
    (b : Beagle) (given : TextLine) → DoesAs (class_of_line b given) (at_next_line b) (take_line b given)
