-- What is told of signals and faults, one after the other, is their capture: the law `tells_the_capture`.
use Rattle.std.proofs.Common.{◌≡◌, ◌∙◌, ℕ, ◌+◌, ◌-◌, ◌^◌, ◌==◌, true, false, Bool, Option, Some, None, List, [], ◌∷◌, ◌++◌, codes, length}
use Rattle.std.proofs.Common.{ap, refl, sym, subst, arith, nat_le, min, inl, inr, append-nil, append_assoc, if◌then◌else◌}
use Rattle.std.proofs.lemmas.Bool.{cases_Bool}
use Rattle.std.proofs.lemmas.Bool.Decides.{nat_tests}
use Rattle.std.proofs.lemmas.Grind.{flat_map-append}
use Rattle.pmb_io.specs.Count.{capped}
use Rattle.pmb_recording.specs.Recording.{Step as StepOf, at_packet, quietly}
use Rattle.pmb_recording.specs.Told.{no_packets_line, passed_line}
use Rattle.pmb_recording.specs.Wire.{most_wire}
use Rattle.pmb_wire_packets.specs.Packets.{Item, Says, Breaks, Part, Step, Told, Packet, Fault, TooLong}
use Rattle.pmb_wire_packets.specs.Packets.{Where, Outside, Skipping, Inside, again, at_bit, at_fall, at_rise, at_start}
use Rattle.pmb_wire_packets.specs.Packets.{at_stop, broken as broken_at, capture, cut, ended, inside as inside_of, is_late}
use Rattle.pmb_wire_packets.specs.Packets.{is_packet, is_within_byte, may_lack_stop, outside as outside_of, packets_in, quiet}
use Rattle.pmb_wire_packets.specs.Packets.{refused, skipping as skipping_of, step, told, told_text, told_texts, with_byte as with_answer}
use Rattle.pmb_wire_packets.specs.Reasons.{does_not_follow, is_x, stop_may_be_lost, was_low}
use Rattle.pmb_wire_packets.specs.Time.{seconds}
use Rattle.pmb_wire_packets.specs.declared.wire_packets.WirePackets.{WirePackets}
use Rattle.pmb_wire_packets.specs.machine.Steps.{again as again_step, bit, broken, cut_within, end, fall_by, on, refuse, rise_inside}
use Rattle.pmb_wire_packets.specs.machine.Steps.{run_text, start, start_inside, stop_inside, take, take_item}
use Rattle.pmb_wires.specs.declared.signal.Place.{Place}
use Rattle.pmb_wires.specs.declared.signal.Rise.{Rise as RiseOfScl}
use Rattle.pmb_wires.specs.declared.signal.Signal.{Signal}
use Rattle.pmb_wires.specs.declared.signal.Signal.TheVariants.{Start, Stop, Rise, Fall, Unknown}

-- ---- where the machine stands

-- no packet is under way
abbrev out : WirePackets → Bool → WirePackets
out p skips = record p { recording = record p.recording { packet = None; is_skipping = skips } }

-- this one is
abbrev within : WirePackets → Part → WirePackets
within p part = record p {
  recording = record p.recording {
    packet = Some (record { first = part.first; last = part.last });
    wire = record { items = part.wire };
    time = record { items = seconds p.origin part.time ++ codes " s" };
    is_skipping = false;
  };
  bits = record { items = part.bits };
  is_at_start = part.is_at_start;
  fell = part.fell;
  rose = part.rose;
}

abbrev Stands : WirePackets → Where → Type 0
Stands p Outside = p ≡ out p false
Stands p Skipping = p ≡ out p true
Stands p (Inside part) = p ≡ within p part

-- A step of the machine does what the step of the definition says.
record Follows (p : WirePackets) (s : StepOf WirePackets) (t : Step) : Type 0 where
  pub text : s.text ≡ told_texts p.origin t.told
  pub stands : Stands s.now t.next
  pub timeout : s.now.timeout ≡ p.timeout
  pub origin : s.now.origin ≡ p.origin
  pub buses : s.now.recording.other_buses ≡ p.recording.other_buses
  pub counted : (k : ℕ) → no_packets_line (s.now.recording.packets + k)
      ≡ no_packets_line (p.recording.packets + (packets_in t.told + k))

one_told : (origin : ℕ) (line : Told) → told_text origin line ≡ told_texts origin (line ∷ [])
one_told origin line = sym (append-nil (told_text origin line))

two_told : (origin : ℕ) (a b : Told) → told_text origin a ++ told_text origin b ≡ told_texts origin (a ∷ b ∷ [])
two_told origin a b = ap (λ (t : List ℕ). told_text origin a ++ t) (one_told origin b)

-- ---- counts

none_more : (n k : ℕ) → no_packets_line (n + k) ≡ no_packets_line (n + (0 + k))
none_more n k = ap no_packets_line (omega arith)

some_packets : (n : ℕ) → no_packets_line (1 + n) ≡ []
some_packets n =
    let some : ((1 + n) == 0) ≡ false = grind (arith, nat_tests) in
    rw some refl

one_more : (n k : ℕ) → no_packets_line (capped (n + 1) + k) ≡ no_packets_line (n + ((1 + 0) + k))
one_more n k =
    let left : (capped (n + 1) + k) ≡ 1 + (min n (2 ^ 64 - 2) + k) = omega arith in
    let right : (n + ((1 + 0) + k)) ≡ 1 + (n + k) = omega arith in
    ap no_packets_line left ∙ some_packets (min n (2 ^ 64 - 2) + k) ∙ sym (ap no_packets_line right ∙ some_packets (n + k))

-- ---- outside of a packet

outside_follows : (p : WirePackets) (signal : Signal) → Follows (out p false) (take (out p false) signal) (outside_of signal)
outside_follows p (Start place) = record {
  text = refl;
  stands = refl;
  timeout = refl;
  origin = refl;
  buses = refl;
  counted = none_more p.recording.packets;
}
outside_follows p (Stop place) = record {
  text = one_told p.origin (Fault place.line does_not_follow);
  stands = refl;
  timeout = refl;
  origin = refl;
  buses = refl;
  counted = none_more p.recording.packets;
}
outside_follows p (Rise rise) = record {
  text = refl;
  stands = refl;
  timeout = refl;
  origin = refl;
  buses = refl;
  counted = none_more p.recording.packets;
}
outside_follows p (Fall place) = record {
  text = one_told p.origin (Fault place.line does_not_follow);
  stands = refl;
  timeout = refl;
  origin = refl;
  buses = refl;
  counted = none_more p.recording.packets;
}
outside_follows p (Unknown wire place) = record {
  text = one_told p.origin (Fault place.line (is_x wire));
  stands = refl;
  timeout = refl;
  origin = refl;
  buses = refl;
  counted = none_more p.recording.packets;
}

skipping_follows : (p : WirePackets) (signal : Signal) → Follows (out p true) (take (out p true) signal) (skipping_of signal)
skipping_follows p (Start place) = record {
  text = refl;
  stands = refl;
  timeout = refl;
  origin = refl;
  buses = refl;
  counted = none_more p.recording.packets;
}
skipping_follows p (Stop place) = record {
  text = refl;
  stands = refl;
  timeout = refl;
  origin = refl;
  buses = refl;
  counted = none_more p.recording.packets;
}
skipping_follows p (Rise rise) = record {
  text = refl;
  stands = refl;
  timeout = refl;
  origin = refl;
  buses = refl;
  counted = none_more p.recording.packets;
}
skipping_follows p (Fall place) = record {
  text = refl;
  stands = refl;
  timeout = refl;
  origin = refl;
  buses = refl;
  counted = none_more p.recording.packets;
}
skipping_follows p (Unknown wire place) = record {
  text = one_told p.origin (Fault place.line (is_x wire));
  stands = refl;
  timeout = refl;
  origin = refl;
  buses = refl;
  counted = none_more p.recording.packets;
}

out_broken : (p : WirePackets) (skips : Bool) (line : ℕ) (why : List ℕ)
    → Follows (out p skips) (broken (out p skips) line why)
    (record { told = Fault line why ∷ []; next = Skipping })
out_broken p skips line why = record {
  text = one_told p.origin (Fault line why);
  stands = refl;
  timeout = refl;
  origin = refl;
  buses = refl;
  counted = none_more p.recording.packets;
}

-- ---- inside of one

quiet_within : (p : WirePackets) (part : Part) (now : WirePackets) (next : Part) → now ≡ within now next
    → now.timeout ≡ p.timeout → now.origin ≡ p.origin → now.recording.other_buses ≡ p.recording.other_buses
    → now.recording.packets ≡ p.recording.packets
    → Follows (within p part) (record { now = now; text = [] }) (quiet (Inside next))
quiet_within p part now next stands timeout origin buses packets = record {
  text = refl;
  stands = stands;
  timeout = timeout;
  origin = origin;
  buses = buses;
  counted = λ k. ap (λ (n : ℕ). no_packets_line (n + k)) packets ∙ none_more p.recording.packets k;
}

in_broken : (p : WirePackets) (part : Part) (line : ℕ) (why : List ℕ)
    → Follows (within p part) (broken (within p part) line why)
    (record { told = refused part line why; next = Skipping })
in_broken p part line why = record {
  text = two_told p.origin (cut part) (Fault line why);
  stands = refl;
  timeout = refl;
  origin = refl;
  buses = refl;
  counted = none_more p.recording.packets;
}

in_refused : (p : WirePackets) (part : Part) (place : Place)
    → Follows (within p part) (refuse (within p part) place false)
    (record { told = refused part place.line does_not_follow; next = Skipping })
in_refused p part place = record {
  text = two_told p.origin (cut part) (Fault place.line does_not_follow);
  stands = refl;
  timeout = refl;
  origin = refl;
  buses = refl;
  counted = none_more p.recording.packets;
}

in_refused_by_stop : (p : WirePackets) (part : Part) (place : Place)
    → Follows (within p part) (refuse (within p part) place true)
    (record { told = refused part place.line does_not_follow; next = Outside })
in_refused_by_stop p part place = record {
  text = two_told p.origin (cut part) (Fault place.line does_not_follow);
  stands = refl;
  timeout = refl;
  origin = refl;
  buses = refl;
  counted = none_more p.recording.packets;
}

in_cut : (p : WirePackets) (part : Part)
    → Follows (within p part) (cut_within (within p part) false) (record { told = cut part ∷ []; next = Skipping })
in_cut p part = record {
  text = one_told p.origin (cut part);
  stands = refl;
  timeout = refl;
  origin = refl;
  buses = refl;
  counted = none_more p.recording.packets;
}

in_cut_by_stop : (p : WirePackets) (part : Part)
    → Follows (within p part) (cut_within (within p part) true) (record { told = cut part ∷ []; next = Outside })
in_cut_by_stop p part = record {
  text = one_told p.origin (cut part);
  stands = refl;
  timeout = refl;
  origin = refl;
  buses = refl;
  counted = none_more p.recording.packets;
}

-- behind a START or a byte: `is` says whether it is a START
start_between : (p : WirePackets) (part : Part) (place : Place) (is : Bool)
    → Follows (within p part) (if is then refuse (within p part) place false else quietly (again_step (within p part) place))
    (if is then record { told = refused part place.line does_not_follow; next = Skipping } else quiet (Inside (again part place)))
start_between p part place true = in_refused p part place
start_between p part place false = quiet_within p part _ (again part place) refl refl refl refl refl

stop_between : (p : WirePackets) (part : Part) (place : Place) (is : Bool)
    → Follows (within p part)
    (if is then refuse (within p part) place true else on (within p part) (at_packet (within p part).recording))
    (if is then record { told = refused part place.line does_not_follow; next = Outside } else
    record { told = Packet part.time part.wire ∷ []; next = Outside })
stop_between p part place true = in_refused_by_stop p part place
stop_between p part place false = record {
  text = one_told p.origin (Packet part.time part.wire);
  stands = refl;
  timeout = refl;
  origin = refl;
  buses = refl;
  counted = one_more p.recording.packets;
}

start_follows : (p : WirePackets) (part : Part) (place : Place)
    → Follows (within p part) (start_inside (within p part) place) (at_start part place)
start_follows p part place = elim (cases_Bool (may_lack_stop part.rose)) [
  | inl lost ↦ rw lost (in_broken p part place.line stop_may_be_lost)
  | inr none ↦ elim (cases_Bool (is_within_byte part.bits)) [
    | inl within_byte ↦ rw (none, within_byte) (in_cut p part)
    | inr between ↦ rw (none, between) (start_between p part place part.is_at_start)
  ]
]

stop_follows : (p : WirePackets) (part : Part) (place : Place)
    → Follows (within p part) (stop_inside (within p part) place) (at_stop part place)
stop_follows p part place = elim (cases_Bool (is_within_byte part.bits)) [
  | inl within_byte ↦ rw within_byte (in_cut_by_stop p part)
  | inr between ↦ rw between (stop_between p part place part.is_at_start)
]

rise_follows : (p : WirePackets) (part : Part) (rise : RiseOfScl)
    → Follows (within p part) (rise_inside (within p part) rise) (at_rise p.timeout part rise)
rise_follows p part rise = elim (cases_Bool (is_late p.timeout part.fell rise.place.time)) [
  | inl late ↦ rw late (in_broken p part rise.place.line (was_low p.timeout))
  | inr soon ↦ rw soon (quiet_within p part _ (record part { rose = Some rise }) refl refl refl refl refl)
]

bit_follows : (p : WirePackets) (part : Part) (fell : ℕ) (is_one : Bool) (place : Place)
    → Follows (within p part) (bit (record (within p part) { fell = Some fell; rose = None }) is_one place)
    (at_bit (record part { last = place.line; fell = Some fell; rose = None }) is_one place.line)
bit_follows p part fell is_one place = elim (cases_Bool (nat_le 8 (length part.bits))) [
  | inl full ↦ elim (cases_Bool (nat_le most_wire (length part.wire))) [
    | inl long ↦ rw (full, long) (record {
      text = one_told p.origin (TooLong place.line part.first);
      stands = refl;
      timeout = refl;
      origin = refl;
      buses = refl;
      counted = none_more p.recording.packets;
    })
    | inr room ↦ rw (full, room) (quiet_within p part _
        (with_answer (record part { last = place.line; fell = Some fell; rose = None }) is_one)
        refl refl refl refl refl)
  ]
  | inr more ↦ rw more (quiet_within p part _
      (record part { last = place.line; fell = Some fell; rose = None; bits = part.bits ++ is_one ∷ [] })
      refl refl refl refl refl)
]

fall_follows : (p : WirePackets) (part : Part) (rose : Option RiseOfScl) (place : Place)
    → Follows (within p part) (fall_by (within p part) rose place) (at_fall part rose place)
fall_follows p part (Some rise) place = bit_follows p part place.time rise.is_one place
fall_follows p part None place =
    quiet_within p part _ (record part { fell = Some place.time }) refl refl refl refl refl

inside_follows : (p : WirePackets) (part : Part) (signal : Signal)
    → Follows (within p part) (take (within p part) signal) (inside_of p.timeout part signal)
inside_follows p part (Start place) = start_follows p part place
inside_follows p part (Stop place) = stop_follows p part place
inside_follows p part (Rise rise) = rise_follows p part rise
inside_follows p part (Fall place) = fall_follows p part part.rose place
inside_follows p part (Unknown wire place) = in_broken p part place.line (is_x wire)

-- ---- any item

follows : (p : WirePackets) (place : Where) (item : Item) → Stands p place
    → Follows p (take_item p item) (step p.timeout place item)
follows p Outside (Says signal) stands =
    subst (λ (q : WirePackets). Follows q (take q signal) (outside_of signal)) (sym stands) (outside_follows p signal)
follows p Skipping (Says signal) stands =
    subst (λ (q : WirePackets). Follows q (take q signal) (skipping_of signal)) (sym stands) (skipping_follows p signal)
follows p (Inside part) (Says signal) stands =
    subst (λ (q : WirePackets). Follows q (take q signal) (inside_of p.timeout part signal)) (sym stands)
    (inside_follows p part signal)
follows p Outside (Breaks line why) stands =
    subst (λ (q : WirePackets). Follows q (broken q line why) (broken_at Outside line why)) (sym stands)
    (out_broken p false line why)
follows p Skipping (Breaks line why) stands =
    subst (λ (q : WirePackets). Follows q (broken q line why) (broken_at Skipping line why)) (sym stands)
    (out_broken p true line why)
follows p (Inside part) (Breaks line why) stands =
    subst (λ (q : WirePackets). Follows q (broken q line why) (broken_at (Inside part) line why)) (sym stands)
    (in_broken p part line why)

-- ---- all of them

packets_in-append : (a b : List Told) → packets_in (a ++ b) ≡ packets_in a + packets_in b
packets_in-append [] b = omega arith
packets_in-append (line ∷ a) b = elim (cases_Bool (is_packet line)) [
  | inl one ↦ rw (one, packets_in-append a b) (omega arith)
  | inr none ↦ rw none (packets_in-append a b)
]

-- what is told of all the items, and of the end
abbrev tells : ℕ → ℕ → List Told → List ℕ
tells origin packets lines = told_texts origin lines ++ no_packets_line (packets + packets_in lines)

abbrev Ends : WirePackets → Where → Type 0
Ends p place = (end p).text ≡ tells p.origin p.recording.packets (ended place)

ends_out : (p : WirePackets) (skips : Bool) → p.recording.other_buses ≡ 0
    → (end (out p skips)).text ≡ tells p.origin p.recording.packets []
ends_out p skips none = rw none (ap no_packets_line (omega arith))

ends_within : (p : WirePackets) (part : Part) → p.recording.other_buses ≡ 0
    → (end (within p part)).text ≡ tells p.origin p.recording.packets (cut part ∷ [])
ends_within p part none =
    let line = told_text p.origin (cut part) in
    let none_more : p.recording.packets ≡ p.recording.packets + 0 = omega arith in
    let text : (end (within p part)).text ≡ line ++ no_packets_line p.recording.packets =
    ap (λ (n : ℕ). line ++ (passed_line n (codes "other buses") ++ no_packets_line p.recording.packets)) none in
    text
    ∙ ap (λ (t : List ℕ). t ++ no_packets_line p.recording.packets) (one_told p.origin (cut part))
    ∙ ap (λ (n : ℕ). told_texts p.origin (cut part ∷ []) ++ no_packets_line n) none_more

ends : (p : WirePackets) (place : Where) → Stands p place → p.recording.other_buses ≡ 0 → Ends p place
ends p Outside stands none =
    subst (λ (q : WirePackets). (end q).text ≡ tells p.origin p.recording.packets []) (sym stands) (ends_out p false none)
ends p Skipping stands none =
    subst (λ (q : WirePackets). (end q).text ≡ tells p.origin p.recording.packets []) (sym stands) (ends_out p true none)
ends p (Inside part) stands none =
    subst (λ (q : WirePackets). (end q).text ≡ tells p.origin p.recording.packets (cut part ∷ [])) (sym stands)
    (ends_within p part none)

-- a text, then the rest
join : (origin packets after : ℕ) (now rest : List Told)
    → ((k : ℕ) → no_packets_line (after + k) ≡ no_packets_line (packets + (packets_in now + k)))
    → told_texts origin now ++ tells origin after rest ≡ tells origin packets (now ++ rest)
join origin packets after now rest counted =
    let texts : told_texts origin (now ++ rest) ≡ told_texts origin now ++ told_texts origin rest =
    flat_map-append (told_text origin) now rest in
    let same : no_packets_line (after + packets_in rest) ≡ no_packets_line (packets + packets_in (now ++ rest)) =
    counted (packets_in rest) ∙ ap (λ (n : ℕ). no_packets_line (packets + n)) (sym (packets_in-append now rest)) in
    sym (append_assoc (told_texts origin now) (told_texts origin rest) (no_packets_line (after + packets_in rest)))
    ∙ ap (λ (t : List ℕ). t ++ no_packets_line (after + packets_in rest)) (sym texts)
    ∙ ap (λ (t : List ℕ). told_texts origin (now ++ rest) ++ t) same

runs : (p : WirePackets) (place : Where) (items : List Item) → Stands p place → p.recording.other_buses ≡ 0
    → run_text p items ≡ tells p.origin p.recording.packets (told p.timeout place items)
runs p place [] stands none = ends p place stands none
runs p place (item ∷ items) stands none =
    let s = take_item p item in
    let t = step p.timeout place item in
    let f : Follows p s t = follows p place item stands in
    let rest : run_text s.now items ≡ tells s.now.origin s.now.recording.packets (told s.now.timeout t.next items) =
    runs s.now t.next items f.stands (f.buses ∙ none) in
    let at_origin : run_text s.now items ≡ tells p.origin s.now.recording.packets (told p.timeout t.next items) =
    rest ∙ ap (λ (o : ℕ). tells o s.now.recording.packets (told s.now.timeout t.next items)) f.origin
    ∙ ap (λ (o : ℕ). tells p.origin s.now.recording.packets (told o t.next items)) f.timeout in
    ap (λ (a : List ℕ). a ++ run_text s.now items) f.text
    ∙ ap (λ (b : List ℕ). told_texts p.origin t.told ++ b) at_origin
    ∙ join p.origin p.recording.packets s.now.recording.packets t.told (told p.timeout t.next items) f.counted

pub tells_the_capture : (origin timeout : ℕ) (items : List Item)
    → run_text (start timeout origin) items ≡ capture origin timeout items
tells_the_capture origin timeout items =
    runs (start timeout origin) Outside items refl refl
    ∙ ap (λ (n : ℕ). told_texts origin (told timeout Outside items) ++ no_packets_line n) (omega arith)
