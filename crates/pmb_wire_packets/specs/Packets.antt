-- The packets of a recording of two wires, and what is told besides, by what the changes of the wires say.
use Rattle.std.specs.Prelude.{ℕ, ◌+◌, ◌-◌, ◌*◌, ◌^◌, ◌&&◌, nat_le, nat_lt, not, true, false, Bool, Option, Some, None}
use Rattle.std.specs.Prelude.{if◌then◌else◌, List, [], ◌∷◌, ◌++◌, codes, length}
use Rattle.std.specs.List.{flat_map}
use Rattle.pmb_recording.specs.Told.{at_line, cut_line, no_packets_line, packet_text}
use Rattle.pmb_recording.specs.Told.{time_line, too_long_line}
use Rattle.pmb_recording.specs.Wire.{most_wire}
use Rattle.pmb_recording.specs.declared.wire_byte.WireByte.{WireByte}
use Rattle.pmb_wire_packets.specs.Bits.{byte_of}
use Rattle.pmb_wire_packets.specs.Reasons.{does_not_follow, is_x, stop_may_be_lost, was_low}
use Rattle.pmb_wire_packets.specs.Time.{seconds}
use Rattle.pmb_wires.specs.declared.signal.Place.{Place}
use Rattle.pmb_wires.specs.declared.signal.Rise.{Rise as RiseOfScl}
use Rattle.pmb_wires.specs.declared.signal.Signal.{Signal}
use Rattle.pmb_wires.specs.declared.signal.Signal.TheVariants.{Start, Stop, Rise, Fall, Unknown}

-- ---- what is read, and what is told

-- A signal of the bus, or a fault of reading at a line, with its words. It ends a piece of the recording.
pub data Item : Type 0 where
  Says : Signal → Item
  Breaks : ℕ → List ℕ → Item

-- a line that is told
pub data Told : Type 0 where
  -- a packet, with the time of its START
  Packet : (time : ℕ) → (wire : List WireByte) → Told
  -- the packet from a first line is cut: the last line gave it an event
  Cut : (last first : ℕ) → Told
  -- a fault at a line, with its words
  Fault : (line : ℕ) → (why : List ℕ) → Told
  -- the bytes of a line have no room in the packet from a first line
  TooLong : (line first : ℕ) → Told

abbrev pub told_text : ℕ → Told → List ℕ
told_text origin (Packet time wire) = time_line (seconds origin time ++ codes " s") ++ packet_text wire
told_text origin (Cut last first) = cut_line last first
told_text origin (Fault line why) = at_line line why
told_text origin (TooLong line first) = too_long_line line first

-- ---- the packet under way

-- Where a packet began, the last line that gave it an event, its bytes, and the bits of the byte under way. `fell` and
-- `rose` are of SCL: when it fell last, and how it rose, if that is the last signal.
pub record Part : Type 0 where
  pub first : ℕ
  pub last : ℕ
  pub time : ℕ
  pub wire : List WireByte
  pub bits : List Bool
  pub is_at_start : Bool
  pub fell : Option ℕ
  pub rose : Option RiseOfScl

abbrev pub begun : Place → Part
begun place = record {
  first = place.line;
  last = place.line;
  time = place.time;
  wire = [];
  bits = [];
  is_at_start = true;
  fell = None;
  rose = None;
}

abbrev pub cut : Part → Told
cut part = Cut part.last part.first

-- a repeated START
abbrev pub again : Part → Place → Part
again part place = record part { last = place.line; is_at_start = true; rose = None }

-- SCL rose with SDA: a STOP and the bus at rest may be lost before a START there
abbrev pub may_lack_stop : Option RiseOfScl → Bool
may_lack_stop (Some rise) = rise.with_sda
may_lack_stop None = false

-- femtoseconds in a thousandth of a second
abbrev pub millisecond : ℕ
millisecond = 10 ^ 12

-- whether SCL was low for too long, where that is known and there is a time-out
abbrev pub is_late : ℕ → Option ℕ → ℕ → Bool
is_late timeout (Some fell) time = nat_lt 0 timeout && nat_lt (timeout * millisecond) (time - fell)
is_late timeout None time = false

abbrev pub is_within_byte : List Bool → Bool
is_within_byte [] = false
is_within_byte (bit ∷ bits) = true

-- ---- reading

-- Outside of a packet, behind a fault or a cut, or inside a packet.
pub data Where : Type 0 where
  Outside : Where
  Skipping : Where
  Inside : Part → Where

-- a fault within a packet, which is cut
abbrev pub refused : Part → ℕ → List ℕ → List Told
refused part line why = cut part ∷ Fault line why ∷ []

-- what is told at an item, and where reading goes on
pub record Step : Type 0 where
  pub told : List Told
  pub next : Where

abbrev pub quiet : Where → Step
quiet next = record { told = []; next = next }

abbrev pub outside : Signal → Step
outside (Start place) = quiet (Inside (begun place))
outside (Stop place) = record { told = Fault place.line does_not_follow ∷ []; next = Outside }
outside (Rise rise) = quiet Outside
outside (Fall place) = record { told = Fault place.line does_not_follow ∷ []; next = Skipping }
outside (Unknown wire place) = record { told = Fault place.line (is_x wire) ∷ []; next = Skipping }

abbrev pub skipping : Signal → Step
skipping (Start place) = quiet Skipping
skipping (Stop place) = quiet Outside
skipping (Rise rise) = quiet Skipping
skipping (Fall place) = quiet Skipping
skipping (Unknown wire place) = record { told = Fault place.line (is_x wire) ∷ []; next = Skipping }

abbrev pub at_start : Part → Place → Step
at_start part place =
    if may_lack_stop part.rose then record { told = refused part place.line stop_may_be_lost; next = Skipping } else
    if is_within_byte part.bits then record { told = cut part ∷ []; next = Skipping } else
    if part.is_at_start then record { told = refused part place.line does_not_follow; next = Skipping } else
    quiet (Inside (again part place))

abbrev pub at_stop : Part → Place → Step
at_stop part place =
    if is_within_byte part.bits then record { told = cut part ∷ []; next = Outside } else
    if part.is_at_start then record { told = refused part place.line does_not_follow; next = Outside } else
    record { told = Packet part.time part.wire ∷ []; next = Outside }

abbrev pub at_rise : ℕ → Part → RiseOfScl → Step
at_rise timeout part rise =
    if is_late timeout part.fell rise.place.time then
    record { told = refused part rise.place.line (was_low timeout); next = Skipping }
    else quiet (Inside (record part { rose = Some rise }))

-- the ninth bit: the answer to a byte
abbrev pub with_byte : Part → Bool → Part
with_byte part answer = record part {
  wire = part.wire ++ (record {
    follows_start = part.is_at_start;
    byte = byte_of part.bits;
    is_acknowledged = not answer;
  }) ∷ [];
  bits = [];
  is_at_start = false;
}

abbrev pub at_answer : Part → Bool → ℕ → Step
at_answer part answer line =
    if nat_le most_wire (length part.wire) then record { told = TooLong line part.first ∷ []; next = Skipping } else
    quiet (Inside (with_byte part answer))

abbrev pub at_bit : Part → Bool → ℕ → Step
at_bit part bit line =
    if nat_le 8 (length part.bits) then at_answer part bit line else
    quiet (Inside (record part { bits = part.bits ++ bit ∷ [] }))

abbrev pub at_fall : Part → Option RiseOfScl → Place → Step
at_fall part (Some rise) place =
    at_bit (record part { last = place.line; fell = Some place.time; rose = None }) rise.is_one place.line
at_fall part None place = quiet (Inside (record part { fell = Some place.time }))

abbrev pub inside : ℕ → Part → Signal → Step
inside timeout part (Start place) = at_start part place
inside timeout part (Stop place) = at_stop part place
inside timeout part (Rise rise) = at_rise timeout part rise
inside timeout part (Fall place) = at_fall part part.rose place
inside timeout part (Unknown wire place) = record { told = refused part place.line (is_x wire); next = Skipping }

-- a fault of reading
abbrev pub broken : Where → ℕ → List ℕ → Step
broken (Inside part) line why = record { told = refused part line why; next = Skipping }
broken Outside line why = record { told = Fault line why ∷ []; next = Skipping }
broken Skipping line why = record { told = Fault line why ∷ []; next = Skipping }

abbrev pub says : ℕ → Where → Signal → Step
says timeout Outside signal = outside signal
says timeout Skipping signal = skipping signal
says timeout (Inside part) signal = inside timeout part signal

abbrev pub step : ℕ → Where → Item → Step
step timeout place (Says signal) = says timeout place signal
step timeout place (Breaks line why) = broken place line why

-- at the end a packet under way is cut
abbrev pub ended : Where → List Told
ended (Inside part) = cut part ∷ []
ended Outside = []
ended Skipping = []

-- all that is told of what is read
abbrev pub told : ℕ → Where → List Item → List Told
told timeout place [] = ended place
told timeout place (item ∷ items) =
    (step timeout place item).told ++ told timeout (step timeout place item).next items

-- ---- the capture

abbrev pub is_packet : Told → Bool
is_packet (Packet time wire) = true
is_packet (Cut last first) = false
is_packet (Fault line why) = false
is_packet (TooLong line first) = false

abbrev pub packets_in : List Told → ℕ
packets_in [] = 0
packets_in (line ∷ lines) = if is_packet line then 1 + packets_in lines else packets_in lines

abbrev pub told_texts : ℕ → List Told → List ℕ
told_texts origin lines = flat_map (told_text origin) lines

-- the capture of a recording: its packets and what is told besides, and that there are no packets
abbrev pub capture : ℕ → ℕ → List Item → List ℕ
capture origin timeout items =
    told_texts origin (told timeout Outside items) ++ no_packets_line (packets_in (told timeout Outside items))
