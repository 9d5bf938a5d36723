-- The wave form of packets, drawn by SMBus's rules: what each wire is given, one stroke after the other, and each stroke
-- some time behind the one before it.
use Rattle.std.specs.Prelude.{◌≡◌, ◌<◌, ◌≤◌, ℕ, suc, ◌+◌, ◌*◌, ◌/◌, ◌%◌, ◌==◌, not, true, false, Bool, Option, Some, None}
use Rattle.std.specs.Prelude.{List, [], ◌∷◌, ◌++◌, length}
use Rattle.std.specs.List.{flat_map}
use Rattle.pmb_recording.specs.Told.{no_packets_line}
use Rattle.pmb_recording.specs.Wire.{most_wire}
use Rattle.pmb_recording.specs.declared.wire_byte.WireByte.{WireByte}
use Rattle.pmb_wire_packets.specs.Packets.{Told, Packet, Outside, millisecond, packets_in, told, told_texts}
use Rattle.pmb_wire_packets.specs.Pieces.{EachRises, Read, Gives, capture_of, items}
use Rattle.pmb_wires.specs.declared.level.Level.{Level}
use Rattle.pmb_wires.specs.declared.level.Level.TheVariants.{Low, High}
use Rattle.pmb_wires.specs.declared.moment.Edge.{Edge}
use Rattle.pmb_wires.specs.declared.moment.Moment.{Moment}

-- ---- strokes

-- one of the wires is given a level, which it may have already
pub data Stroke : Type 0 where
  Scl : Level → Stroke
  Sda : Level → Stroke

abbrev pub level_of : Bool → Level
level_of true = High
level_of false = Low

-- a bit: SDA gets it while SCL is low, and SCL is high for a while
abbrev pub bit_strokes : Bool → List Stroke
bit_strokes bit = Sda (level_of bit) ∷ Scl High ∷ Scl Low ∷ []

-- the bits of a byte, the highest one first
abbrev pub is_odd : ℕ → Bool
is_odd n = n % 2 == 1

abbrev pub bits_of : ℕ → List Bool
bits_of byte =
    is_odd (byte / 128) ∷ is_odd (byte / 64) ∷ is_odd (byte / 32) ∷ is_odd (byte / 16)
    ∷ is_odd (byte / 8) ∷ is_odd (byte / 4) ∷ is_odd (byte / 2) ∷ is_odd byte ∷ []

-- a byte and its answer, which is 0 where the byte is acknowledged
abbrev pub byte_strokes : WireByte → List Stroke
byte_strokes b = flat_map bit_strokes (bits_of b.byte) ++ bit_strokes (not b.is_acknowledged)

-- START where the bus rests, a repeated START behind a byte, and STOP
abbrev pub start_strokes : List Stroke
start_strokes = Sda Low ∷ Scl Low ∷ []

abbrev pub again_strokes : List Stroke
again_strokes = Sda High ∷ Scl High ∷ Sda Low ∷ Scl Low ∷ []

abbrev pub stop_strokes : List Stroke
stop_strokes = Sda Low ∷ Scl High ∷ Sda High ∷ []

abbrev pub strokes_by : Bool → WireByte → List Stroke
strokes_by true b = again_strokes ++ byte_strokes b
strokes_by false b = byte_strokes b

abbrev pub next_strokes : WireByte → List Stroke
next_strokes b = strokes_by b.follows_start b

-- the first byte stands behind START, and each other one behind a byte
abbrev pub packet_strokes : List WireByte → List Stroke
packet_strokes [] = []
packet_strokes (b ∷ wire) = start_strokes ++ (byte_strokes b ++ (flat_map next_strokes wire ++ stop_strokes))

-- what has a wave form: a packet that a recording has room for, whose bytes are bytes
abbrev pub AreBytes : List WireByte → Type 0
AreBytes [] = Unit {0}
AreBytes (b ∷ wire) = (b.byte < 256) × AreBytes wire

pub record BeginsPacket (first : WireByte) (others : List WireByte) : Type 0 where
  pub starts : first.follows_start ≡ true
  pub byte : first.byte < 256
  pub bytes : AreBytes others
  pub fits : length others + 1 ≤ most_wire

abbrev pub IsPacket : List WireByte → Type 0
IsPacket [] = ⊥
IsPacket (first ∷ others) = BeginsPacket first others

abbrev pub ArePackets : List (List WireByte) → Type 0
ArePackets [] = Unit {0}
ArePackets (wire ∷ packets) = IsPacket wire × ArePackets packets

-- ---- times

-- Strokes with their times: the phase in front of the stroke with a number, counted from the whole drawing's first one,
-- is any length, and so is the line that tells it.
pub record Pen : Type 0 where
  pub phase : ℕ → ℕ
  pub line : ℕ → ℕ

abbrev pub edge : Pen → ℕ → Level → Option Edge
edge pen number level = Some (record { line = pen.line number; level = level })

abbrev pub stroke_at : Pen → ℕ → ℕ → Stroke → Moment
stroke_at pen number time (Scl level) = record { time = time; scl = edge pen number level; sda = None }
stroke_at pen number time (Sda level) = record { time = time; scl = None; sda = edge pen number level }

abbrev pub drawn : Pen → ℕ → ℕ → List Stroke → List Moment
drawn pen number time [] = []
drawn pen number time (stroke ∷ strokes) =
    stroke_at pen number (time + pen.phase number) stroke
    ∷ drawn pen (suc number) (time + pen.phase number) strokes

-- the bus at rest, and then all packets
abbrev pub rest_at : Pen → ℕ → Moment
rest_at pen time = record { time = time; scl = edge pen 0 High; sda = edge pen 0 High }

abbrev pub wave_form : Pen → ℕ → List (List WireByte) → List Moment
wave_form pen time packets = rest_at pen time ∷ drawn pen 1 time (flat_map packet_strokes packets)

-- ---- the packets with their times

abbrev pub time_behind : Pen → ℕ → ℕ → List Stroke → ℕ
time_behind pen number time [] = time
time_behind pen number time (stroke ∷ strokes) = time_behind pen (suc number) (time + pen.phase number) strokes

abbrev pub number_behind : ℕ → List Stroke → ℕ
number_behind number [] = number
number_behind number (stroke ∷ strokes) = number_behind (suc number) strokes

-- START is the first stroke of a packet.
abbrev pub timed : Pen → ℕ → ℕ → List (List WireByte) → List Told
timed pen number time [] = []
timed pen number time (wire ∷ packets) =
    Packet (time + pen.phase number) wire
    ∷ timed pen (number_behind number (packet_strokes wire)) (time_behind pen number time (packet_strokes wire)) packets

-- Phases are long enough that none is a spike, and so short that SCL is not low for too long: it is low for two phases
-- in front of a bit, and for as many in front of a repeated START and of STOP.
pub record IsDrawable (glitch timeout : ℕ) (pen : Pen) : Type 0 where
  pub longer : (number : ℕ) → glitch ≤ pen.phase number
  pub some : (number : ℕ) → 0 < pen.phase number
  pub in_time : (number : ℕ) → 0 < timeout → pen.phase number + pen.phase (suc number) ≤ timeout * millisecond

abbrev pub all_read : List Moment → List Read
all_read [] = []
all_read (m ∷ ms) = Gives m ∷ all_read ms

-- What is told of the wave form is these packets, with their times, and its capture is theirs. Times rise in it, as the
-- law of a reader wants.
pub record IsReadBack (glitch timeout origin time : ℕ) (pen : Pen) (packets : List (List WireByte)) : Type 0 where
  pub rises : EachRises (all_read (wave_form pen time packets))
  pub same : told timeout Outside (items glitch (all_read (wave_form pen time packets))) ≡ timed pen 1 time packets
  pub capture : capture_of glitch timeout origin (all_read (wave_form pen time packets))
      ≡ told_texts origin (timed pen 1 time packets) ++ no_packets_line (packets_in (timed pen 1 time packets))

abbrev pub ReadsDrawn : Type 0
ReadsDrawn = (glitch timeout origin time : ℕ) (pen : Pen) (packets : List (List WireByte))
    → IsDrawable glitch timeout pen → ArePackets packets → IsReadBack glitch timeout origin time pen packets
