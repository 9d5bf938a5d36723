-- What becomes of a packet, row by row, and what is told.
use Rattle.std.specs.Prelude.{ℕ, ◌+◌, ◌*◌, ◌==◌, true, false, Bool, Option, Some, None, nat_lt, if◌then◌else◌, List}
use Rattle.std.specs.Prelude.{[], ◌∷◌, ◌++◌, length}
use Rattle.pmb_beagle.specs.Columns.{heading_of, is_remark}
use Rattle.pmb_beagle.specs.Export.{Says, OfCapture, OfTransaction, OfOther, Transaction, ends_packet, field_if}
use Rattle.pmb_beagle.specs.Export.{index_of, is_marked, is_next, is_out_of_range, says_of, start_time}
use Rattle.pmb_beagle.specs.declared.beagle.Beagle.{Beagle}
use Rattle.pmb_beagle.specs.declared.columns.Columns.{Columns}
use Rattle.pmb_csv.specs.Fields.{Record, record_of}
use Rattle.pmb_io.specs.Lines.{TextLine}
use Rattle.pmb_recording.specs.Content.{content}
use Rattle.pmb_recording.specs.Recording.{Step, at_end, at_fault, at_fault_ending, at_heading, at_packet, at_too_long}
use Rattle.pmb_recording.specs.Recording.{begun, fresh, given, next_line, quietly, skipped}
use Rattle.pmb_recording.specs.Told.{Reason, DoesNotFollow, IsMarked, MakesNoSense, RowsAreMissing}
use Rattle.pmb_recording.specs.Wire.{bit_of, most_wire}
use Rattle.pmb_recording.specs.declared.recording.PacketLines.{PacketLines}
use Rattle.pmb_recording.specs.declared.recording.Recording.{Recording}
use Rattle.pmb_recording.specs.declared.wire_byte.WireByte.{WireByte}

-- nothing came yet
abbrev pub start : Beagle
start = record { recording = fresh None; columns = None; index = None }

-- what becomes of the machine, by what becomes of its recording
abbrev pub on : Beagle → Step Recording → Step Beagle
on b step = record { now = record b { recording = step.now }; text = step.text }

abbrev pub fault : Beagle → Reason → Step Beagle
fault b reason = on b (at_fault b.recording reason)

-- A fault of a row. Reading begins behind one that ends a packet.
abbrev pub fault_of : Beagle → Bool → Reason → Step Beagle
fault_of b ends reason = on b (at_fault_ending b.recording reason ends)

-- ---- packets

-- the bytes of a transaction on the wire: the address with its direction, and the others
abbrev pub wire_of : Transaction → List WireByte
wire_of t = record t.address { follows_start = true; byte = t.address.byte * 2 + bit_of t.reads } ∷ t.bytes

abbrev pub with_bytes : Beagle → List WireByte → Beagle
with_bytes b bytes = record b {
  recording = record b.recording { wire = record { items = b.recording.wire.items ++ bytes } };
}

-- STOP ends the packet.
abbrev pub end_if : Bool → Beagle → Step Beagle
end_if true b = on b (at_packet b.recording)
end_if false b = quietly b

-- The packet under way has room for the bytes of a transaction, or it is too long.
abbrev pub add : Beagle → Transaction → Step Beagle
add b t =
    if nat_lt most_wire (length b.recording.wire.items + length (wire_of t)) then
    on b (at_too_long b.recording t.marks.has_stop)
    else end_if t.marks.has_stop (with_bytes b (wire_of t))

-- a transaction that does not follow
abbrev pub refuse : Beagle → Transaction → Step Beagle
refuse b t = fault_of b t.marks.has_stop DoesNotFollow

-- A transaction goes on with the packet under way by a repeated START.
abbrev pub inside : Beagle → Transaction → Step Beagle
inside b t =
    if t.marks.has_start then add (record b { recording = given b.recording }) t else refuse b t

-- Where no packet is under way it begins one.
abbrev pub begin : Beagle → List ℕ → Transaction → Step Beagle
begin b time t =
    if t.marks.has_start then add (record b { recording = begun b.recording time }) t else refuse b t

-- Behind a fault all transactions are skipped up to one with STOP.
abbrev pub skip : Beagle → Transaction → Step Beagle
skip b t = if t.marks.has_stop then quietly (record b { recording = skipped b.recording }) else quietly b

abbrev pub outside : Beagle → List ℕ → Transaction → Step Beagle
outside b time t = if b.recording.is_skipping then skip b t else begin b time t

abbrev pub follow : Beagle → List ℕ → Transaction → Option PacketLines → Step Beagle
follow b time t (Some lines) = inside b t
follow b time t None = outside b time t

-- ---- rows
-- The first fault of a row is told: its form, rows that are missing in front of it, what it is of, `Err`, its range,
-- its order.

abbrev pub take_transaction : Beagle → Columns → Record → Transaction → Step Beagle
take_transaction b columns r t =
    if is_marked (field_if columns.error r) then fault_of b (ends_packet columns r) IsMarked else
    if is_out_of_range columns r t then fault_of b (ends_packet columns r) MakesNoSense else
    follow b (start_time columns r) t b.recording.packet

-- a row that has its form, where no rows are missing
abbrev pub take_said : Beagle → Columns → Record → Says → Step Beagle
take_said b columns r (OfTransaction t) = take_transaction b columns r t
take_said b columns r OfCapture = on b (at_heading b.recording)
take_said b columns r OfOther = fault_of b (ends_packet columns r) MakesNoSense

-- a row with a number, by whether that is one more than the last
abbrev pub take_next : Beagle → Columns → Record → Bool → Option Says → Step Beagle
take_next b columns r next (Some says) =
    if next then take_said b columns r says else fault_of b (ends_packet columns r) RowsAreMissing
take_next b columns r next None = fault_of b (ends_packet columns r) MakesNoSense

-- The number of each row is kept, so that it is that of the row in front for the next one.
abbrev pub numbered : Beagle → Option ℕ → Beagle
numbered b index = record b { index = index }

abbrev pub take_numbered : Beagle → Columns → Record → Option ℕ → Step Beagle
take_numbered b columns r (Some index) =
    take_next (numbered b (Some index)) columns r (is_next b.index index) (says_of columns r)
take_numbered b columns r None = fault_of (numbered b None) (ends_packet columns r) MakesNoSense

abbrev pub take_row : Beagle → Columns → Record → Step Beagle
take_row b columns r = take_numbered b columns r (index_of columns r)

-- ---- lines

-- a row, where its columns are known
abbrev pub take_under : Beagle → Option Columns → Record → Step Beagle
take_under b (Some columns) r = take_row b columns r
take_under b None r = fault b MakesNoSense

-- A line that begins with `#` and names no columns says nothing.
abbrev pub take_other : Beagle → List ℕ → Step Beagle
take_other b line = if is_remark line then quietly b else take_under b b.columns (record_of line)

-- A line that names the columns begins anew, and so do the numbers behind it.
abbrev pub take_heading : Beagle → Columns → Step Beagle
take_heading b columns = on (record b { columns = Some columns; index = None }) (at_heading b.recording)

abbrev pub take_by : Beagle → Option Columns → List ℕ → Step Beagle
take_by b (Some columns) line = take_heading b columns
take_by b None line = take_other b line

-- A blank line says nothing.
abbrev pub take_text : Beagle → List ℕ → Step Beagle
take_text b [] = quietly b
take_text b (byte ∷ line) = take_by b (heading_of (byte ∷ line)) (byte ∷ line)

-- Behind a line that is too long or lacks its LF no number is known.
abbrev pub take_content : Beagle → Option (List ℕ) → Step Beagle
take_content b (Some line) = take_text b line
take_content b None = fault (numbered b None) MakesNoSense

-- the next line of the recording
abbrev pub take_line : Beagle → TextLine → Step Beagle
take_line b given =
    take_content (record b { recording = next_line b.recording }) (content (b.recording.line == 0) given)

-- the end of the recording
abbrev pub take_end : Beagle → Step Beagle
take_end b = on b (at_end b.recording None)
