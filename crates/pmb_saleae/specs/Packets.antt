-- What becomes of a packet, row by row, and what is told.
use Rattle.std.specs.Prelude.{ℕ, ◌==◌, true, false, Bool, Option, Some, None, nat_le, if◌then◌else◌, List, [], ◌∷◌, ◌++◌}
use Rattle.std.specs.Prelude.{length}
use Rattle.std.specs.Str.{bytes_eq}
use Rattle.pmb_csv.specs.Fields.{Record, record_of}
use Rattle.pmb_io.specs.Lines.{TextLine}
use Rattle.pmb_recording.specs.Content.{content}
use Rattle.pmb_recording.specs.Recording.{Step, at_begin, at_end, at_fault, at_fault_ending, at_heading, at_packet}
use Rattle.pmb_recording.specs.Recording.{at_too_long}
use Rattle.pmb_recording.specs.Recording.{following, fresh, given, is_followed, next_line, past_other_bus, quietly}
use Rattle.pmb_recording.specs.Recording.{skipped}
use Rattle.pmb_recording.specs.Told.{Reason, DoesNotFollow, MakesNoSense}
use Rattle.pmb_recording.specs.Wire.{most_wire}
use Rattle.pmb_recording.specs.declared.recording.Recording.{Recording}
use Rattle.pmb_recording.specs.declared.recording.PacketLines.{PacketLines}
use Rattle.pmb_recording.specs.declared.wire_byte.WireByte.{WireByte}
use Rattle.pmb_saleae.specs.Columns.{heading_of}
use Rattle.pmb_saleae.specs.Row.{is_row, lost_front, name_of, number_in, value_if}
use Rattle.pmb_saleae.specs.Table.{event_of, settled}
use Rattle.pmb_saleae.specs.Time.{time_of}
use Rattle.pmb_saleae.specs.declared.columns.Columns.{Columns}
use Rattle.pmb_saleae.specs.declared.event.Event.{Event}
use Rattle.pmb_saleae.specs.declared.event.Event.TheVariants.{Start, Stop, Address, Data}
use Rattle.pmb_saleae.specs.declared.saleae.Saleae.{Saleae}

-- nothing came yet
abbrev pub start : Option (List ℕ) → Saleae
start bus = record { recording = fresh bus; columns = None; radix = None; is_at_start = false }

-- what becomes of the machine, by what becomes of its recording
abbrev pub on : Saleae → Step Recording → Step Saleae
on t step = record { now = record t { recording = step.now }; text = step.text }

-- a fault
abbrev pub fault : Saleae → Reason → Step Saleae
fault t reason = on t (at_fault t.recording reason)

-- ---- events

-- one more byte of the packet under way, with its answer
abbrev pub with_byte : Saleae → WireByte → Saleae
with_byte t b = record t {
  recording = record (given t.recording) { wire = record { items = t.recording.wire.items ++ b ∷ [] } };
  is_at_start = false;
}

-- The packet is too long where the byte has no room.
abbrev pub add_byte : Saleae → WireByte → Step Saleae
add_byte t b =
    if nat_le most_wire (length t.recording.wire.items) then on t (at_too_long t.recording false) else
    quietly (with_byte t b)

-- another START of the packet under way
abbrev pub repeat : Saleae → Saleae
repeat t = record t { recording = given t.recording; is_at_start = true }

-- whether an event ends a packet
abbrev pub is_stop : Event → Bool
is_stop Stop = true
is_stop Start = false
is_stop (Address b) = false
is_stop (Data b) = false

-- An event that does not follow. Reading begins behind a STOP, also here.
abbrev pub refuse : Saleae → Event → Step Saleae
refuse t event = on t (at_fault_ending t.recording DoesNotFollow (is_stop event))

-- Within a packet an address follows START alone, and START, STOP and other bytes follow a byte.
abbrev pub inside : Saleae → Event → Step Saleae
inside t Start = if t.is_at_start then refuse t Start else quietly (repeat t)
inside t Stop = if t.is_at_start then refuse t Stop else on t (at_packet t.recording)
inside t (Address b) = if t.is_at_start then add_byte t b else refuse t (Address b)
inside t (Data b) = if t.is_at_start then refuse t (Data b) else add_byte t b

-- what is skipped, up to STOP
abbrev pub skip : Saleae → Event → Saleae
skip t Stop = record t { recording = skipped t.recording }
skip t Start = t
skip t (Address b) = t
skip t (Data b) = t

-- START begins a packet, with its time, and nothing else does.
abbrev pub begin : Saleae → List ℕ → Event → Step Saleae
begin t time Start = on (record t { is_at_start = true }) (at_begin t.recording (time_of time))
begin t time Stop = refuse t Stop
begin t time (Address b) = refuse t (Address b)
begin t time (Data b) = refuse t (Data b)

-- an event where no packet is under way
abbrev pub outside : Saleae → List ℕ → Event → Step Saleae
outside t time event = if t.recording.is_skipping then quietly (skip t event) else begin t time event

-- an event of a row with a time, by the packet under way
abbrev pub follow : Saleae → List ℕ → Event → Option PacketLines → Step Saleae
follow t time event (Some lines) = inside t event
follow t time event None = outside t time event

-- ---- rows

-- what a row gives: a fault where that makes no sense
abbrev pub take_event : Saleae → List ℕ → Option Event → Step Saleae
take_event t time (Some event) = follow t time event t.recording.packet
take_event t time None = fault t MakesNoSense

-- the radix that a row settles
abbrev pub with_radix : Saleae → Columns → Record → Saleae
with_radix t columns r = record t { radix = settled t.radix (number_in columns r) }

-- a row of the analyzer that is followed
abbrev pub take_row : Saleae → Columns → Record → Step Saleae
take_row t columns r =
    take_event (with_radix t columns r) (value_if columns.start_time r)
    (event_of (with_radix t columns r).radix columns r)

-- A row of an analyzer is passed over if that is not followed, but not one that lost the front of its name.
abbrev pub on_bus : Saleae → List ℕ → Columns → Record → Step Saleae
on_bus t name columns r =
    if is_followed t.recording name then take_row t columns r else
    if lost_front t.recording.bus.items name then fault t MakesNoSense else
    quietly (record t { recording = past_other_bus t.recording })

-- A row with all its fields. The first that names an analyzer settles which is followed; one that names none is a fault.
abbrev pub take_named : Saleae → List ℕ → Columns → Record → Step Saleae
take_named t name columns r =
    if bytes_eq name [] then fault t MakesNoSense else
    on_bus (record t { recording = following t.recording name }) name columns r

-- A line under a heading is a row if it has as many fields, and else a fault, whatever analyzer it names.
abbrev pub take_fields : Saleae → Columns → Record → Step Saleae
take_fields t columns r =
    if is_row columns r then take_named t (name_of columns r) columns r else fault t MakesNoSense

-- a line that names no columns, which is a fault where no heading came
abbrev pub under : Saleae → Option Columns → Record → Step Saleae
under t (Some columns) r = take_fields t columns r
under t None r = fault t MakesNoSense

-- A heading names the columns of the rows behind it.
abbrev pub take_under : Saleae → Option Columns → Record → Step Saleae
take_under t (Some columns) r = on (record t { columns = Some columns }) (at_heading t.recording)
take_under t None r = under t t.columns r

-- a line that is not blank: a heading, or a row
abbrev pub take_record : Saleae → Record → Step Saleae
take_record t r = take_under t (heading_of r) r

-- what a line holds: a fault where that is too long or lacks its LF
abbrev pub take_content : Saleae → Option (List ℕ) → Step Saleae
take_content t None = fault t MakesNoSense
take_content t (Some []) = quietly t
take_content t (Some (byte ∷ line)) = take_record t (record_of (byte ∷ line))

-- the next line of the recording
abbrev pub take_line : Saleae → TextLine → Step Saleae
take_line t given =
    take_content (record t { recording = next_line t.recording }) (content (t.recording.line == 0) given)

-- the end of the recording
abbrev pub take_end : Saleae → Step Saleae
take_end t = on t (at_end t.recording None)
