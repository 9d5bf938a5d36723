-- What becomes of the packets of a recording at each item, and what is told.
use Rattle.std.specs.Prelude.{ℕ, not, nat_le, true, false, Bool, Option, Some, None, if◌then◌else◌, List, [], ◌∷◌, ◌++◌}
use Rattle.std.specs.Prelude.{codes, length}
use Rattle.pmb_recording.specs.Recording.{Step as StepOf, at_begin, at_end, at_heading, at_packet, at_too_long, cut, fresh, given}
use Rattle.pmb_recording.specs.Recording.{quietly, skipped, skipping, with_trouble}
use Rattle.pmb_recording.specs.Told.{at_line}
use Rattle.pmb_recording.specs.Wire.{most_wire}
use Rattle.pmb_recording.specs.declared.recording.PacketLines.{PacketLines}
use Rattle.pmb_recording.specs.declared.recording.Recording.{Recording}
use Rattle.pmb_wire_packets.specs.Bits.{byte_of}
use Rattle.pmb_wire_packets.specs.Packets.{Item, Says, Breaks, is_late, is_within_byte, may_lack_stop}
use Rattle.pmb_wire_packets.specs.Reasons.{does_not_follow, is_x, stop_may_be_lost, was_low}
use Rattle.pmb_wire_packets.specs.Time.{seconds}
use Rattle.pmb_wire_packets.specs.declared.wire_packets.WirePackets.{WirePackets}
use Rattle.pmb_wires.specs.declared.signal.Place.{Place}
use Rattle.pmb_wires.specs.declared.signal.Rise.{Rise as RiseOfScl}
use Rattle.pmb_wires.specs.declared.signal.Signal.{Signal}
use Rattle.pmb_wires.specs.declared.signal.Signal.TheVariants.{Start, Stop, Rise, Fall, Unknown}
use Rattle.pmb_wires.specs.declared.signal.Wire.{Wire}

-- nothing came yet
abbrev pub start : ℕ → ℕ → WirePackets
start timeout origin = record {
  recording = fresh None;
  timeout = timeout;
  origin = origin;
  bits = record { items = [] };
  is_at_start = false;
  fell = None;
  rose = None;
}

abbrev pub on : WirePackets → StepOf Recording → StepOf WirePackets
on p step = record { now = record p { recording = step.now }; text = step.text }

-- the recording at a line
abbrev pub at_line_of : Recording → ℕ → Recording
at_line_of r line = record r { line = line }

-- ---- faults and cuts

-- a fault of a recording, told in these words
abbrev pub at_told : Recording → List ℕ → StepOf Recording
at_told r why = record { now = skipping (with_trouble (cut r).now); text = (cut r).text ++ at_line r.line why }

-- a fault is counted, and what follows is skipped
abbrev pub counted_fault : WirePackets → WirePackets
counted_fault p = record p { recording = skipping (with_trouble p.recording) }

-- a fault at a line
abbrev pub broken : WirePackets → ℕ → List ℕ → StepOf WirePackets
broken p line why = on p (at_told (at_line_of p.recording line) why)

-- what follows is skipped, unless a STOP is the fault
abbrev pub unless_stop : Bool → StepOf WirePackets → StepOf WirePackets
unless_stop is_stop step = record {
  now = record step.now { recording = record step.now.recording { is_skipping = not is_stop } };
  text = step.text;
}

abbrev pub refuse : WirePackets → Place → Bool → StepOf WirePackets
refuse p place is_stop = unless_stop is_stop (broken p place.line does_not_follow)

abbrev pub unknown : WirePackets → Wire → Place → StepOf WirePackets
unknown p wire place = broken p place.line (is_x wire)

-- the packet is cut, and what follows is skipped, unless a STOP cut it
abbrev pub cut_within : WirePackets → Bool → StepOf WirePackets
cut_within p is_stop = unless_stop is_stop (on p (at_heading p.recording))

-- ---- outside of a packet

abbrev pub begin : WirePackets → Place → StepOf WirePackets
begin p place = record {
  now = record {
    recording = (at_begin (at_line_of p.recording place.line) (seconds p.origin place.time ++ codes " s")).now;
    timeout = p.timeout;
    origin = p.origin;
    bits = record { items = [] };
    is_at_start = true;
    fell = None;
    rose = None;
  };
  text = (at_begin (at_line_of p.recording place.line) (seconds p.origin place.time ++ codes " s")).text;
}

abbrev pub outside : WirePackets → Signal → StepOf WirePackets
outside p (Start place) = begin p place
outside p (Stop place) = refuse p place true
outside p (Rise rise) = quietly p
outside p (Fall place) = refuse p place false
outside p (Unknown wire place) = unknown p wire place

abbrev pub skip : WirePackets → Signal → StepOf WirePackets
skip p (Start place) = quietly p
skip p (Stop place) = quietly (record p { recording = skipped p.recording })
skip p (Rise rise) = quietly p
skip p (Fall place) = quietly p
skip p (Unknown wire place) = unknown p wire place

-- ---- inside of one

abbrev pub again : WirePackets → Place → WirePackets
again p place = record p {
  recording = given (at_line_of p.recording place.line);
  is_at_start = true;
  rose = None;
}

abbrev pub start_inside : WirePackets → Place → StepOf WirePackets
start_inside p place =
    if may_lack_stop p.rose then broken p place.line stop_may_be_lost else
    if is_within_byte p.bits.items then cut_within p false else
    if p.is_at_start then refuse p place false else quietly (again p place)

abbrev pub stop_inside : WirePackets → Place → StepOf WirePackets
stop_inside p place =
    if is_within_byte p.bits.items then cut_within p true else
    if p.is_at_start then refuse p place true else on p (at_packet p.recording)

abbrev pub rise_inside : WirePackets → RiseOfScl → StepOf WirePackets
rise_inside p rise =
    if is_late p.timeout p.fell rise.place.time then broken p rise.place.line (was_low p.timeout) else
    quietly (record p { rose = Some rise })

-- a byte with its answer
abbrev pub with_byte : WirePackets → Bool → WirePackets
with_byte p is_acknowledged = record p {
  recording = record p.recording {
    wire = record {
      items = p.recording.wire.items ++ (record {
        follows_start = p.is_at_start;
        byte = byte_of p.bits.items;
        is_acknowledged = is_acknowledged;
      }) ∷ [];
    };
  };
  bits = record { items = [] };
  is_at_start = false;
}

abbrev pub without_bits : WirePackets → WirePackets
without_bits p = record p { bits = record { items = [] } }

abbrev pub byte : WirePackets → Bool → StepOf WirePackets
byte p is_acknowledged =
    if nat_le most_wire (length p.recording.wire.items) then on (without_bits p) (at_too_long p.recording false) else
    quietly (with_byte p is_acknowledged)

abbrev pub add_bit : WirePackets → Bool → StepOf WirePackets
add_bit p is_one =
    if nat_le 8 (length p.bits.items) then byte p (not is_one) else
    quietly (record p { bits = record { items = p.bits.items ++ is_one ∷ [] } })

abbrev pub bit : WirePackets → Bool → Place → StepOf WirePackets
bit p is_one place = add_bit (record p { recording = given (at_line_of p.recording place.line) }) is_one

abbrev pub fall_by : WirePackets → Option RiseOfScl → Place → StepOf WirePackets
fall_by p (Some rise) place = bit (record p { fell = Some place.time; rose = None }) rise.is_one place
fall_by p None place = quietly (record p { fell = Some place.time })

abbrev pub fall_inside : WirePackets → Place → StepOf WirePackets
fall_inside p place = fall_by p p.rose place

abbrev pub inside : WirePackets → Signal → StepOf WirePackets
inside p (Start place) = start_inside p place
inside p (Stop place) = stop_inside p place
inside p (Rise rise) = rise_inside p rise
inside p (Fall place) = fall_inside p place
inside p (Unknown wire place) = unknown p wire place

-- ---- any item

abbrev pub take_by : WirePackets → Option PacketLines → Signal → StepOf WirePackets
take_by p (Some lines) signal = inside p signal
take_by p None signal = if p.recording.is_skipping then skip p signal else outside p signal

abbrev pub take : WirePackets → Signal → StepOf WirePackets
take p signal = take_by p p.recording.packet signal

abbrev pub take_item : WirePackets → Item → StepOf WirePackets
take_item p (Says signal) = take p signal
take_item p (Breaks line why) = broken p line why

abbrev pub end : WirePackets → StepOf WirePackets
end p = on p (at_end p.recording None)

-- what is told of items, and of the end
abbrev pub run_text : WirePackets → List Item → List ℕ
run_text p [] = (end p).text
run_text p (item ∷ items) = (take_item p item).text ++ run_text (take_item p item).now items
