-- The wave form of packets is read back, with the times of START: the law `reads_drawn_packets`.
--
-- Between two bits a packet is `mid`: SCL is 0 there, and what SDA is doesn't matter. Each bit, byte and packet takes the
-- reading from one such place to the next.
use Rattle.std.proofs.Common.{◌≡◌, ◌∙◌, ◌<◌, ◌≤◌, ◌+◌, ◌-◌, ◌*◌, ℕ, suc, true, false, not, Bool, Some, None}
use Rattle.std.proofs.Common.{List, [], ◌∷◌, ◌++◌, length, ap, refl, sym, arith, nat_lt, nat_le, inl, inr, ◌==◌}
use Rattle.std.proofs.Common.{append_assoc, append-nil, length-append}
use Rattle.std.specs.List.{flat_map}
use Rattle.std.proofs.lemmas.Bool.{agree_below, agree_below_at, cases_Bool}
use Rattle.std.proofs.lemmas.Bool.Decides.{nat_tests}
use Rattle.pmb_recording.specs.Told.{no_packets_line}
use Rattle.pmb_recording.specs.Wire.{most_wire}
use Rattle.pmb_recording.specs.declared.wire_byte.WireByte.{WireByte}
use Rattle.pmb_wire_packets.specs.Bits.{byte_of}
use Rattle.pmb_wire_packets.specs.Drawn.{AreBytes, ArePackets, BeginsPacket, IsDrawable, IsPacket, Pen, ReadsDrawn, Stroke, Scl, Sda}
use Rattle.pmb_wire_packets.specs.Drawn.{again_strokes, all_read, bit_strokes, bits_of, byte_strokes, drawn, level_of, next_strokes}
use Rattle.pmb_wire_packets.specs.Drawn.{number_behind, packet_strokes, rest_at, stop_strokes, strokes_by, time_behind, timed, wave_form}
use Rattle.pmb_wire_packets.specs.Packets.{Part, Told, Packet, Where, Outside, Inside, is_late, millisecond, packets_in, told}
use Rattle.pmb_wire_packets.specs.Packets.{told_texts, with_byte}
use Rattle.pmb_wire_packets.specs.Pieces.{all_say, items}
use Rattle.pmb_wires.specs.Changes.{changes, nothing}
use Rattle.pmb_wires.specs.Signals.{signals}
use Rattle.pmb_wires.specs.declared.level.Level.{Level}
use Rattle.pmb_wires.specs.declared.level.Level.TheVariants.{Low, High}
use Rattle.pmb_wires.specs.declared.level.Levels.{Levels}
use Rattle.pmb_wires.specs.declared.moment.Moment.{Moment}
use Rattle.pmb_wires.specs.declared.signal.Rise.{Rise as RiseOfScl}
use Rattle.pmb_wire_packets.proofs.DrawnForm.{each_rises, far_drawn, form, high, one_piece}

-- ---- bytes and their bits

-- all of them, computed
bits_test : agree_below (λ byte. byte_of (bits_of byte) == byte) (λ byte. true) 256 ≡ true
bits_test = refl

is_equal : (a b : ℕ) → (a == b) ≡ true → a ≡ b
is_equal a b is = grind (arith, nat_tests)

byte_of_bits : (byte : ℕ) → byte < 256 → byte_of (bits_of byte) ≡ byte
byte_of_bits byte small =
    is_equal (byte_of (bits_of byte)) byte
    (agree_below_at (λ b. byte_of (bits_of b) == b) (λ b. true) 256 byte bits_test small)

not_twice : (b : Bool) → not (not b) ≡ b
not_twice true = refl
not_twice false = refl

-- ---- what is told of strokes, by where reading stands

abbrev levels : Level → Level → Levels
levels c d = record { scl = Some c; sda = Some d }

abbrev reads : ℕ → Pen → Where → Levels → ℕ → ℕ → List Stroke → List Told
reads timeout pen place now n t strokes = told timeout place (all_say (signals now true (changes now (drawn pen n t strokes))))

-- a packet under way behind a fall of SCL, at `fell`
abbrev mid : ℕ → ℕ → ℕ → List WireByte → List Bool → Bool → ℕ → Part
mid first last start wire bits is_at_start fell = record {
  first = first;
  last = last;
  time = start;
  wire = wire;
  bits = bits;
  is_at_start = is_at_start;
  fell = Some fell;
  rose = None;
}

abbrev rise_of : Pen → ℕ → ℕ → Bool → RiseOfScl
rise_of pen n t bit = record {
  place = record { line = pen.line n; time = t + pen.phase n };
  is_one = bit;
  with_sda = false;
}

-- the same where `one` says how a byte or a packet goes on
abbrev reads_in : ℕ → Pen → Part → Bool → ℕ → ℕ → List Stroke → List Told
reads_in timeout pen part d n t strokes = reads timeout pen (Inside part) (levels Low (level_of d)) n t strokes

-- SDA changes while SCL is 0
set_sda : (timeout : ℕ) (pen : Pen) (part : Part) (d bit : Bool) (n t : ℕ) (rest : List Stroke)
    → reads_in timeout pen part d n t (Sda (level_of bit) ∷ rest)
    ≡ reads_in timeout pen part bit (suc n) (t + pen.phase n) rest
set_sda timeout pen part true true n t rest = refl
set_sda timeout pen part true false n t rest = refl
set_sda timeout pen part false true n t rest = refl
set_sda timeout pen part false false n t rest = refl

rise : (timeout : ℕ) (pen : Pen) (part : Part) (d : Bool) (n t : ℕ) (rest : List Stroke)
    → is_late timeout part.fell (t + pen.phase n) ≡ false
    → reads_in timeout pen part d n t (Scl High ∷ rest)
    ≡ reads timeout pen (Inside (record part { rose = Some (rise_of pen n t d) })) (levels High (level_of d)) (suc n)
    (t + pen.phase n) rest
rise timeout pen part true n t rest soon = rw soon refl
rise timeout pen part false n t rest soon = rw soon refl

-- SCL falls: behind a bit of a byte, and behind its answer
abbrev fallen : Pen → Part → ℕ → ℕ → Part
fallen pen part n t = record part { last = pen.line n; fell = Some (t + pen.phase n); rose = None }

fall_bit : (timeout : ℕ) (pen : Pen) (part : Part) (r : RiseOfScl) (d : Bool) (n t : ℕ) (rest : List Stroke)
    → nat_le 8 (length part.bits) ≡ false
    → reads timeout pen (Inside (record part { rose = Some r })) (levels High (level_of d)) n t (Scl Low ∷ rest)
    ≡ reads_in timeout pen (record (fallen pen part n t) { bits = part.bits ++ r.is_one ∷ [] }) d (suc n)
    (t + pen.phase n) rest
fall_bit timeout pen part r true n t rest more = rw more refl
fall_bit timeout pen part r false n t rest more = rw more refl

fall_answer : (timeout : ℕ) (pen : Pen) (part : Part) (r : RiseOfScl) (d : Bool) (n t : ℕ) (rest : List Stroke)
    → nat_le 8 (length part.bits) ≡ true → nat_le most_wire (length part.wire) ≡ false
    → reads timeout pen (Inside (record part { rose = Some r })) (levels High (level_of d)) n t (Scl Low ∷ rest)
    ≡ reads_in timeout pen (with_byte (fallen pen part n t) r.is_one) d (suc n) (t + pen.phase n) rest
fall_answer timeout pen part r true n t rest full room = rw (full, room) refl
fall_answer timeout pen part r false n t rest full room = rw (full, room) refl

-- ---- the time-out

abbrev InTime : ℕ → Pen → Type 0
InTime timeout pen = (n t : ℕ) → is_late timeout (Some t) ((t + pen.phase n) + pen.phase (suc n)) ≡ false

not_over : (limit t a b : ℕ) → a + b ≤ limit → nat_lt limit (((t + a) + b) - t) ≡ false
not_over limit t a b le = grind (arith, nat_tests)

some_of : (n : ℕ) → nat_lt 0 n ≡ true → 0 < n
some_of n is = grind (arith, nat_tests)

in_time : (glitch timeout : ℕ) (pen : Pen) → IsDrawable glitch timeout pen → (n t : ℕ)
    → is_late timeout (Some t) ((t + pen.phase n) + pen.phase (suc n)) ≡ false
in_time glitch timeout pen drawable n t = elim (cases_Bool (nat_lt 0 timeout)) [
  | inl some ↦
      let le : pen.phase n + pen.phase (suc n) ≤ timeout * millisecond = drawable.in_time n (some_of timeout some) in
      let soon : nat_lt (timeout * millisecond) (((t + pen.phase n) + pen.phase (suc n)) - t) ≡ false =
      not_over (timeout * millisecond) t (pen.phase n) (pen.phase (suc n)) le in
      rw (some, soon) refl
  | inr none ↦ rw none refl
]

-- ---- a bit

abbrev third : Pen → ℕ → ℕ → ℕ
third pen n t = ((t + pen.phase n) + pen.phase (suc n)) + pen.phase (suc (suc n))

bit_read : (timeout : ℕ) (pen : Pen) → InTime timeout pen → (first last start : ℕ) (wire : List WireByte)
    (bits : List Bool) (at_start d bit : Bool) (n t : ℕ) (rest : List Stroke) → nat_le 8 (length bits) ≡ false
    → reads_in timeout pen (mid first last start wire bits at_start t) d n t (bit_strokes bit ++ rest)
    ≡ reads_in timeout pen (mid first (pen.line (suc (suc n))) start wire (bits ++ bit ∷ []) at_start (third pen n t)) bit
    (suc (suc (suc n))) (third pen n t) rest
bit_read timeout pen soon first last start wire bits at_start d bit n t rest more =
    let part = mid first last start wire bits at_start t in
    let t1 = t + pen.phase n in
    let t2 = t1 + pen.phase (suc n) in
    set_sda timeout pen part d bit n t (Scl High ∷ Scl Low ∷ rest)
    ∙ rise timeout pen part bit (suc n) t1 (Scl Low ∷ rest) (soon n t)
    ∙ fall_bit timeout pen part (rise_of pen (suc n) t1 bit) bit (suc (suc n)) t2 rest more

-- its answer
answer_read : (timeout : ℕ) (pen : Pen) → InTime timeout pen → (first last start : ℕ) (wire : List WireByte)
    (bits : List Bool) (at_start d answer : Bool) (n t : ℕ) (rest : List Stroke) → nat_le 8 (length bits) ≡ true
    → nat_le most_wire (length wire) ≡ false
    → reads_in timeout pen (mid first last start wire bits at_start t) d n t (bit_strokes answer ++ rest)
    ≡ reads_in timeout pen (mid first (pen.line (suc (suc n))) start (wire ++ (record {
      follows_start = at_start;
      byte = byte_of bits;
      is_acknowledged = not answer;
    }) ∷ []) [] false (third pen n t)) answer (suc (suc (suc n))) (third pen n t) rest
answer_read timeout pen soon first last start wire bits at_start d answer n t rest full room =
    let part = mid first last start wire bits at_start t in
    let t1 = t + pen.phase n in
    let t2 = t1 + pen.phase (suc n) in
    set_sda timeout pen part d answer n t (Scl High ∷ Scl Low ∷ rest)
    ∙ rise timeout pen part answer (suc n) t1 (Scl Low ∷ rest) (soon n t)
    ∙ fall_answer timeout pen part (rise_of pen (suc n) t1 answer) answer (suc (suc n)) t2 rest full room

-- ---- a byte

not_full : (k n : ℕ) → n < k → nat_le k n ≡ false
not_full k n less = grind (arith, nat_tests)

-- the reading goes on behind some strokes, at a last line and a level of SDA that don't matter
abbrev GoesOn : ℕ → Pen → Part → Bool → ℕ → ℕ → List Stroke → List Stroke → (ℕ → Part) → Type 0
GoesOn timeout pen part d n t strokes rest next =
    (last : ℕ) × (level : Bool) × (reads_in timeout pen part d n t (strokes ++ rest)
    ≡ reads_in timeout pen (next last) level (number_behind n strokes) (time_behind pen n t strokes) rest)

bits_read : (timeout : ℕ) (pen : Pen) → InTime timeout pen → (first start : ℕ) (wire : List WireByte) (at_start : Bool)
    (more bits : List Bool) (last : ℕ) (d : Bool) (n t : ℕ) (rest : List Stroke) → length bits + length more ≤ 8
    → GoesOn timeout pen (mid first last start wire bits at_start t) d n t (flat_map bit_strokes more) rest
    (λ (l : ℕ). mid first l start wire (bits ++ more) at_start (time_behind pen n t (flat_map bit_strokes more)))
bits_read timeout pen soon first start wire at_start [] bits last d n t rest few = (
  last,
  d,
  ap (λ (b : List Bool). reads_in timeout pen (mid first last start wire b at_start t) d n t rest)
      (sym (append-nil bits)),
)
bits_read timeout pen soon first start wire at_start (bit ∷ more) bits last d n t rest few =
    let room : nat_le 8 (length bits) ≡ false = not_full 8 (length bits) (omega arith) in
    let fewer : length (bits ++ bit ∷ []) + length more ≤ 8 = omega (arith, length-append bits (bit ∷ [])) in
    let one = bit_read timeout pen soon first last start wire bits at_start d bit n t (flat_map bit_strokes more ++ rest)
    room in
    let others = bits_read timeout pen soon first start wire at_start more (bits ++ bit ∷ []) (pen.line (suc (suc n))) bit
    (suc (suc (suc n))) (third pen n t) rest fewer in
    let strokes = flat_map bit_strokes more in
    let n3 = suc (suc (suc n)) in
    let t3 = third pen n t in (
      others.0,
      others.1,
      one ∙ others.2
          ∙ ap (λ (b : List Bool). reads_in timeout pen
          (mid first others.0 start wire b at_start (time_behind pen n3 t3 strokes)) others.1
          (number_behind n3 strokes) (time_behind pen n3 t3 strokes) rest)
          (append_assoc bits (bit ∷ []) more),
    )

abbrev with_start : WireByte → Bool → WireByte
with_start b is = record b { follows_start = is }

byte_is : (b : WireByte) (is : Bool) → b.byte < 256
    → record { follows_start = is; byte = byte_of (bits_of b.byte); is_acknowledged = not (not b.is_acknowledged) }
    ≡ with_start b is
byte_is b is small =
    ap (λ (byte : ℕ). record {
      follows_start = is;
      byte = byte;
      is_acknowledged = not (not b.is_acknowledged);
    }) (byte_of_bits b.byte small)
    ∙ ap (λ (a : Bool). record { follows_start = is; byte = b.byte; is_acknowledged = a }) (not_twice b.is_acknowledged)

byte_read : (timeout : ℕ) (pen : Pen) → InTime timeout pen → (first start : ℕ) (wire : List WireByte) (at_start : Bool)
    (b : WireByte) (last : ℕ) (d : Bool) (n t : ℕ) (rest : List Stroke) → b.byte < 256
    → nat_le most_wire (length wire) ≡ false
    → GoesOn timeout pen (mid first last start wire [] at_start t) d n t (byte_strokes b) rest
    (λ (l : ℕ). mid first l start (wire ++ with_start b at_start ∷ []) [] false (time_behind pen n t (byte_strokes b)))
byte_read timeout pen soon first start wire at_start b last d n t rest small room =
    let bits = bits_of b.byte in
    let strokes = flat_map bit_strokes bits in
    let answer = not b.is_acknowledged in
    let n8 = number_behind n strokes in
    let t8 = time_behind pen n t strokes in
    let few : 0 + 8 ≤ 8 = omega arith in
    let eight = bits_read timeout pen soon first start wire at_start bits [] last d n t (bit_strokes answer ++ rest) few in
    let ninth = answer_read timeout pen soon first eight.0 start wire bits at_start eight.1 answer n8 t8 rest refl room in (
      pen.line (suc (suc n8)),
      answer,
      eight.2 ∙ ninth
          ∙ ap (λ (w : WireByte). reads_in timeout pen
          (mid first (pen.line (suc (suc n8))) start (wire ++ w ∷ []) [] false (third pen n8 t8)) answer
          (suc (suc (suc n8))) (third pen n8 t8) rest) (byte_is b at_start small),
    )

-- ---- a repeated START, and a byte behind it or behind a byte

again_read : (timeout : ℕ) (pen : Pen) → InTime timeout pen → (first last start : ℕ) (wire : List WireByte) (d : Bool)
    (n t : ℕ) (rest : List Stroke)
    → GoesOn timeout pen (mid first last start wire [] false t) d n t again_strokes rest
    (λ (l : ℕ). mid first l start wire [] true (time_behind pen n t again_strokes))
again_read timeout pen soon first last start wire d n t rest =
    let part = mid first last start wire [] false t in
    let t1 = t + pen.phase n in (
      pen.line (suc (suc n)),
      false,
      set_sda timeout pen part d true n t (Scl High ∷ Sda Low ∷ Scl Low ∷ rest)
          ∙ rise timeout pen part true (suc n) t1 (Sda Low ∷ Scl Low ∷ rest) (soon n t),
    )

next_read : (timeout : ℕ) (pen : Pen) → InTime timeout pen → (first start : ℕ) (wire : List WireByte) (is : Bool)
    (b : WireByte) (last : ℕ) (d : Bool) (n t : ℕ) (rest : List Stroke) → b.byte < 256
    → nat_le most_wire (length wire) ≡ false
    → GoesOn timeout pen (mid first last start wire [] false t) d n t (strokes_by is b) rest
    (λ (l : ℕ). mid first l start (wire ++ with_start b is ∷ []) [] false (time_behind pen n t (strokes_by is b)))
next_read timeout pen soon first start wire false b last d n t rest small room =
    byte_read timeout pen soon first start wire false b last d n t rest small room
next_read timeout pen soon first start wire true b last d n t rest small room =
    let n4 = number_behind n again_strokes in
    let t4 = time_behind pen n t again_strokes in
    let turn = again_read timeout pen soon first last start wire d n t (byte_strokes b ++ rest) in
    let byte = byte_read timeout pen soon first start wire true b turn.0 turn.1 n4 t4 rest small room in
    (byte.0, byte.1, turn.2 ∙ byte.2)

-- ---- strokes one after the other

number_append : (n : ℕ) (a b : List Stroke) → number_behind n (a ++ b) ≡ number_behind (number_behind n a) b
number_append n [] b = refl
number_append n (stroke ∷ a) b = number_append (suc n) a b

time_append : (pen : Pen) (n t : ℕ) (a b : List Stroke)
    → time_behind pen n t (a ++ b) ≡ time_behind pen (number_behind n a) (time_behind pen n t a) b
time_append pen n t [] b = refl
time_append pen n t (stroke ∷ a) b = time_append pen (suc n) (t + pen.phase n) a b

-- the rest of a packet
others_read : (timeout : ℕ) (pen : Pen) → InTime timeout pen → (first start : ℕ) (others wire : List WireByte)
    (last : ℕ) (d : Bool) (n t : ℕ) (rest : List Stroke) → AreBytes others → length wire + length others ≤ most_wire
    → GoesOn timeout pen (mid first last start wire [] false t) d n t (flat_map next_strokes others) rest
    (λ (l : ℕ). mid first l start (wire ++ others) [] false (time_behind pen n t (flat_map next_strokes others)))
others_read timeout pen soon first start [] wire last d n t rest bytes fits = (
  last,
  d,
  ap (λ (w : List WireByte). reads_in timeout pen (mid first last start w [] false t) d n t rest)
      (sym (append-nil wire)),
)
others_read timeout pen soon first start (b ∷ others) wire last d n t rest bytes fits =
    let strokes = next_strokes b in
    let more = flat_map next_strokes others in
    let n1 = number_behind n strokes in
    let t1 = time_behind pen n t strokes in
    let room : nat_le most_wire (length wire) ≡ false = not_full most_wire (length wire) (omega arith) in
    let fewer : length (wire ++ b ∷ []) + length others ≤ most_wire = omega (arith, length-append wire (b ∷ [])) in
    let one = next_read timeout pen soon first start wire b.follows_start b last d n t (more ++ rest) bytes.0 room in
    let behind = others_read timeout pen soon first start others (wire ++ b ∷ []) one.0 one.1 n1 t1 rest bytes.1 fewer in (
      behind.0,
      behind.1,
      ap (λ (s : List Stroke). reads_in timeout pen (mid first last start wire [] false t) d n t s)
          (append_assoc strokes more rest)
          ∙ one.2 ∙ behind.2
          ∙ ap (λ (w : List WireByte). reads_in timeout pen
          (mid first behind.0 start w [] false (time_behind pen n1 t1 more)) behind.1 (number_behind n1 more)
          (time_behind pen n1 t1 more) rest) (append_assoc wire (b ∷ []) others)
          ∙ ap (λ (k : ℕ). reads_in timeout pen
          (mid first behind.0 start (wire ++ b ∷ others) [] false (time_behind pen n1 t1 more)) behind.1 k
          (time_behind pen n1 t1 more) rest) (sym (number_append n strokes more))
          ∙ ap (λ (k : ℕ). reads_in timeout pen
          (mid first behind.0 start (wire ++ b ∷ others) [] false k) behind.1 (number_behind n (strokes ++ more)) k rest)
          (sym (time_append pen n t strokes more)),
    )

-- ---- a packet

-- where no packet is under way, and the bus rests
abbrev rests : ℕ → Pen → ℕ → ℕ → List Stroke → List Told
rests timeout pen n t strokes = reads timeout pen Outside high n t strokes

stop_read : (timeout : ℕ) (pen : Pen) → InTime timeout pen → (first last start : ℕ) (wire : List WireByte) (d : Bool)
    (n t : ℕ) (rest : List Stroke)
    → reads_in timeout pen (mid first last start wire [] false t) d n t (stop_strokes ++ rest)
    ≡ Packet start wire ∷ rests timeout pen (number_behind n stop_strokes) (time_behind pen n t stop_strokes) rest
stop_read timeout pen soon first last start wire d n t rest =
    let part = mid first last start wire [] false t in
    set_sda timeout pen part d false n t (Scl High ∷ Sda High ∷ rest)
    ∙ rise timeout pen part false (suc n) (t + pen.phase n) (Sda High ∷ rest) (soon n t)

-- its strokes behind START
abbrev tail_strokes : WireByte → List WireByte → List Stroke
tail_strokes first others = byte_strokes first ++ (flat_map next_strokes others ++ stop_strokes)

tail_read : (timeout : ℕ) (pen : Pen) → InTime timeout pen → (line start : ℕ) (b : WireByte) (others : List WireByte)
    (n t : ℕ) (rest : List Stroke) → BeginsPacket b others
    → reads_in timeout pen (mid line line start [] [] true t) false n t (tail_strokes b others ++ rest)
    ≡ Packet start (b ∷ others)
    ∷ rests timeout pen (number_behind n (tail_strokes b others)) (time_behind pen n t (tail_strokes b others)) rest
tail_read timeout pen soon line start b others n t rest packet =
    let bytes = byte_strokes b in
    let more = flat_map next_strokes others in
    let n1 = number_behind n bytes in
    let t1 = time_behind pen n t bytes in
    let n2 = number_behind n1 more in
    let t2 = time_behind pen n1 t1 more in
    let room : nat_le most_wire 0 ≡ false = refl in
    let fits : 1 + length others ≤ most_wire = omega (arith, packet.fits) in
    let one = byte_read timeout pen soon line start [] true b line false n t ((more ++ stop_strokes) ++ rest) packet.byte
    room in
    let is : with_start b true ≡ b = ap (with_start b) (sym packet.starts) in
    let two = others_read timeout pen soon line start others (b ∷ []) one.0 one.1 n1 t1 (stop_strokes ++ rest)
    packet.bytes fits in
    let last = stop_read timeout pen soon line two.0 start (b ∷ others) two.1 n2 t2 rest in
    one.2
    ∙ ap (λ (w : WireByte). reads_in timeout pen (mid line one.0 start (w ∷ []) [] false t1) one.1 n1 t1
    ((more ++ stop_strokes) ++ rest)) is
    ∙ ap (λ (s : List Stroke). reads_in timeout pen (mid line one.0 start (b ∷ []) [] false t1) one.1 n1 t1 s)
    (append_assoc more stop_strokes rest)
    ∙ two.2 ∙ last
    ∙ ap (λ (k : ℕ). Packet start (b ∷ others) ∷ rests timeout pen k (time_behind pen n2 t2 stop_strokes) rest)
    (sym (number_append n1 more stop_strokes))
    ∙ ap (λ (k : ℕ). Packet start (b ∷ others) ∷ rests timeout pen (number_behind n1 (more ++ stop_strokes)) k rest)
    (sym (time_append pen n1 t1 more stop_strokes))

packet_read : (timeout : ℕ) (pen : Pen) → InTime timeout pen → (wire : List WireByte) (n t : ℕ) (rest : List Stroke)
    → IsPacket wire
    → rests timeout pen n t (packet_strokes wire ++ rest)
    ≡ Packet (t + pen.phase n) wire
    ∷ rests timeout pen (number_behind n (packet_strokes wire)) (time_behind pen n t (packet_strokes wire)) rest
packet_read timeout pen soon [] n t rest packet = absurd packet
packet_read timeout pen soon (b ∷ others) n t rest packet =
    tail_read timeout pen soon (pen.line n) (t + pen.phase n) b others (suc (suc n))
    ((t + pen.phase n) + pen.phase (suc n)) rest packet

-- ---- all of them

packets_read : (timeout : ℕ) (pen : Pen) → InTime timeout pen → (packets : List (List WireByte)) (n t : ℕ)
    → ArePackets packets
    → rests timeout pen n t (flat_map packet_strokes packets) ≡ timed pen n t packets
packets_read timeout pen soon [] n t are = refl
packets_read timeout pen soon (wire ∷ packets) n t are =
    let strokes = packet_strokes wire in
    packet_read timeout pen soon wire n t (flat_map packet_strokes packets) are.0
    ∙ ap (λ (l : List Told). Packet (t + pen.phase n) wire ∷ l)
    (packets_read timeout pen soon packets (number_behind n strokes) (time_behind pen n t strokes) are.1)

told_back : (glitch timeout time : ℕ) (pen : Pen) (packets : List (List WireByte)) → IsDrawable glitch timeout pen
    → ArePackets packets
    → told timeout Outside (items glitch (all_read (wave_form pen time packets))) ≡ timed pen 1 time packets
told_back glitch timeout time pen packets drawable are =
    let strokes = flat_map packet_strokes packets in
    let ms = drawn pen 1 time strokes in
    ap (told timeout Outside) (one_piece glitch (rest_at pen time ∷ ms))
    ∙ ap (λ (l : List Moment). told timeout Outside (all_say (signals nothing false l)))
    (form glitch pen time ms (far_drawn glitch pen drawable.longer 1 time strokes))
    ∙ packets_read timeout pen (in_time glitch timeout pen drawable) packets 1 time are

pub reads_drawn : ReadsDrawn
reads_drawn glitch timeout origin time pen packets drawable are =
    let back = told_back glitch timeout time pen packets drawable are in record {
      rises = each_rises pen drawable.some time (flat_map packet_strokes packets);
      same = back;
      capture = ap (λ (l : List Told). told_texts origin l ++ no_packets_line (packets_in l)) back;
    }
