-- What becomes of a line is what its class says, by the cases that its class is chosen by.
use Rattle.std.proofs.Common.{◌≡◌, ℕ, arith, ◌==◌, not, nat_le, Bool, true, false, List, [], ◌∷◌, length, Option}
use Rattle.std.proofs.Common.{Some, None, ap, if◌then◌else◌, refl, sym, subst, inl, inr, ◌⊎◌}
use Rattle.std.specs.Str.{bytes_eq}
use Rattle.std.proofs.lemmas.Slice.Eq.{bytes_eq-Decides}
use Rattle.pmb_csv.specs.Fields.{Record, record_of}
use Rattle.pmb_recording.specs.Content.{content}
use Rattle.pmb_recording.specs.Recording.{Step, at_packet, at_too_long, cut_text, following, past_other_bus, quietly}
use Rattle.pmb_recording.specs.Told.{Reason, DoesNotFollow, MakesNoSense}
use Rattle.pmb_recording.specs.Wire.{most_wire}
use Rattle.pmb_recording.specs.declared.recording.PacketLines.{PacketLines}
use Rattle.pmb_recording.specs.declared.recording.Recording.{Recording}
use Rattle.pmb_recording.specs.declared.wire_byte.WireByte.{WireByte}
use Rattle.pmb_recording.specs.Classes.{LineClass, GivesEvents, SaysNothing, PassedOver, IsFault, given_if}
use Rattle.pmb_saleae.specs.Classes.{DoesAs, EachLineHasItsClass, Faulted, GivenText, Nothing, Packet, TooLong, Blank}
use Rattle.pmb_saleae.specs.Classes.{Heading}
use Rattle.pmb_saleae.specs.Classes.{at_next_line, class_of, class_of_named, class_of_record, class_of_row}
use Rattle.pmb_saleae.specs.Classes.{class_of_said, class_on_bus, class_under, may_stand}
use Rattle.pmb_saleae.specs.Columns.{heading_of}
use Rattle.pmb_saleae.specs.Packets.{add_byte, begin, fault, follow, on, on_bus, refuse, repeat, skip, take_content}
use Rattle.pmb_saleae.specs.Packets.{take_event, take_named, take_row, take_under, under, with_byte, with_radix}
use Rattle.pmb_saleae.specs.Row.{is_row, lost_front, name_of, value_if}
use Rattle.pmb_saleae.specs.Table.{event_of}
use Rattle.pmb_saleae.specs.declared.columns.Columns.{Columns}
use Rattle.pmb_saleae.specs.declared.event.Event.{Event}
use Rattle.pmb_saleae.specs.declared.event.Event.TheVariants.{Start, Stop, Address, Data}
use Rattle.pmb_saleae.specs.declared.saleae.Saleae.{Saleae}

bool_cases : (b : Bool) → (b ≡ true) ⊎ (b ≡ false)
bool_cases true = inl refl
bool_cases false = inr refl

-- a fault is told, and no packet is left
faulted : (t : Saleae) (reason : Reason) → Faulted t.recording (fault t reason)
faulted t reason = record {
  reason = reason;
  told = refl;
  is_counted = omega arith;
  is_gone = refl;
  skips = inl refl;
}

refused : (t : Saleae) (event : Event) → Faulted t.recording (refuse t event)
refused t Stop = record {
  reason = DoesNotFollow;
  told = refl;
  is_counted = omega arith;
  is_gone = refl;
  skips = inr (refl, refl);
}
refused t Start = faulted t DoesNotFollow
refused t (Address b) = faulted t DoesNotFollow
refused t (Data b) = faulted t DoesNotFollow

-- ---- events

-- a step of an event: it is given, or it is a fault
abbrev OfEvent : LineClass → Recording → Step Saleae → Type 0
OfEvent GivesEvents before step = GivenText before step.text
OfEvent IsFault before step = Faulted before step
OfEvent SaysNothing before step = ⊥
OfEvent PassedOver before step = ⊥

-- a step that is taken where a test holds, and else is refused
taken_if : (t : Saleae) (event : Event) (b : Bool) (step : Step Saleae) → GivenText t.recording step.text
    → OfEvent (given_if b) t.recording (if b then step else refuse t event)
taken_if t event true step given = given
taken_if t event false step given = refused t event

taken_unless : (t : Saleae) (event : Event) (b : Bool) (step : Step Saleae) → GivenText t.recording step.text
    → OfEvent (given_if (not b)) t.recording (if b then refuse t event else step)
taken_unless t event true step given = refused t event
taken_unless t event false step given = given

room : (t : Saleae) (b : WireByte) (is_full : Bool)
    → GivenText t.recording (if is_full then on t (at_too_long t.recording false) else quietly (with_byte t b)).text
room t b true = TooLong refl
room t b false = Nothing refl

added : (t : Saleae) (b : WireByte) → GivenText t.recording (add_byte t b).text
added t b = room t b (nat_le most_wire (length t.recording.wire.items))

begun : (t : Saleae) (time : List ℕ) (is_skipping : Bool) → t.recording.packet ≡ None
    → GivenText t.recording (if is_skipping then quietly (skip t Start) else begin t time Start).text
begun t time true none = Nothing refl
begun t time false none = Nothing (ap cut_text none)

standing : (t : Saleae) (time : List ℕ) (event : Event) (packet : Option PacketLines) → t.recording.packet ≡ packet
    → OfEvent (given_if (may_stand packet t event)) t.recording (follow t time event packet)
standing t time Start (Some lines) is = taken_unless t Start t.is_at_start (quietly (repeat t)) (Nothing refl)
standing t time Stop (Some lines) is = taken_unless t Stop t.is_at_start (on t (at_packet t.recording)) (Packet refl)
standing t time (Address b) (Some lines) is = taken_if t (Address b) t.is_at_start (add_byte t b) (added t b)
standing t time (Data b) (Some lines) is = taken_unless t (Data b) t.is_at_start (add_byte t b) (added t b)
standing t time Start None is = begun t time t.recording.is_skipping is
standing t time Stop None is = taken_if t Stop t.recording.is_skipping (quietly (skip t Stop)) (Nothing refl)
standing t time (Address b) None is =
    taken_if t (Address b) t.recording.is_skipping (quietly (skip t (Address b))) (Nothing refl)
standing t time (Data b) None is =
    taken_if t (Data b) t.recording.is_skipping (quietly (skip t (Data b))) (Nothing refl)

-- ---- rows

of_said : (t : Saleae) (time : List ℕ) (said : Option Event)
    → OfEvent (class_of_said t said) t.recording (take_event t time said)
of_said t time (Some event) = standing t time event t.recording.packet refl
of_said t time None = faulted t MakesNoSense

of_row : (t : Saleae) (columns : Columns) (r : Record)
    → OfEvent (class_of_row t columns r) t.recording (take_row t columns r)
of_row t columns r =
    let settled = with_radix t columns r in
    let said = event_of settled.radix columns r in
    of_said settled (value_if columns.start_time r) said

-- ---- buses

does : (c : LineClass) (t : Saleae) (step : Step Saleae) → OfEvent c t.recording step → DoesAs c t step
does GivesEvents t step of_event = of_event
does IsFault t step of_event = of_event
does SaysNothing t step of_event = absurd of_event
does PassedOver t step of_event = absurd of_event

-- the machine that follows the analyzer of a name
abbrev settled : Saleae → List ℕ → Saleae
settled t name = record t { recording = record t.recording { follows_bus = true; bus = record { items = name } } }

given_before : (t : Saleae) (name text : List ℕ) → GivenText (settled t name).recording text
    → GivenText t.recording text
given_before t name text (Nothing is) = Nothing is
given_before t name text (Packet is) = Packet is
given_before t name text (TooLong is) = TooLong is

-- that a bus is settled changes no packet
before : (c : LineClass) (t : Saleae) (name : List ℕ) (step : Step Saleae) → OfEvent c (settled t name).recording step
    → DoesAs c t step
before GivesEvents t name step of_event = given_before t name step.text of_event
before IsFault t name step of_event =
    record {
      reason = of_event.reason;
      told = of_event.told;
      is_counted = of_event.is_counted;
      is_gone = of_event.is_gone;
      skips = of_event.skips;
    }
before SaysNothing t name step of_event = absurd of_event
before PassedOver t name step of_event = absurd of_event

-- the bus was settled before
on_known : (t : Saleae) (columns : Columns) (r : Record) (followed lost : Bool)
    → DoesAs (if followed then class_of_row t columns r else if lost then IsFault else PassedOver) t
    (if followed then take_row t columns r else if lost then fault t MakesNoSense else
    quietly (record t { recording = past_other_bus t.recording }))
on_known t columns r true lost = does (class_of_row t columns r) t (take_row t columns r) (of_row t columns r)
on_known t columns r false true = faulted t MakesNoSense
on_known t columns r false false = refl

-- the bus is settled by this line
on_first : (t : Saleae) (name : List ℕ) (columns : Columns) (r : Record) (b lost : Bool) → b ≡ true
    → DoesAs (if b then class_of_row (settled t name) columns r else if lost then IsFault else PassedOver) t
    (if b then take_row (settled t name) columns r else if lost then fault (settled t name) MakesNoSense else
    quietly (record (settled t name) { recording = past_other_bus (settled t name).recording }))
on_first t name columns r true lost is =
    before (class_of_row (settled t name) columns r) t name (take_row (settled t name) columns r)
    (of_row (settled t name) columns r)
on_first t name columns r false lost is = cc

if_true : {A : Type 0} (b : Bool) (x y : A) → b ≡ true → (if b then x else y) ≡ x
if_true true x y is = refl
if_true false x y is = cc

if_false : {A : Type 0} (b : Bool) (x y : A) → b ≡ false → (if b then x else y) ≡ y
if_false true x y is = cc
if_false false x y is = refl

-- it holds of the bus that is followed from this line on
with_bus : (t : Saleae) (name : List ℕ) (columns : Columns) (r : Record) (now : Recording)
    → now ≡ following t.recording name
    → DoesAs (class_on_bus (record t { recording = now }) name columns r) t
    (on_bus (record t { recording = now }) name columns r)
    → DoesAs (class_on_bus (record t { recording = following t.recording name }) name columns r) t
    (on_bus (record t { recording = following t.recording name }) name columns r)
with_bus t name columns r now is does =
    subst (λ (now : Recording).
    DoesAs (class_on_bus (record t { recording = now }) name columns r) t
    (on_bus (record t { recording = now }) name columns r)) is does

on_either : (t : Saleae) (name : List ℕ) (columns : Columns) (r : Record)
    → (t.recording.follows_bus ≡ true) ⊎ (t.recording.follows_bus ≡ false)
    → DoesAs (class_on_bus (record t { recording = following t.recording name }) name columns r) t
    (on_bus (record t { recording = following t.recording name }) name columns r)
on_either t name columns r (inl known) =
    with_bus t name columns r t.recording
    (sym (if_true t.recording.follows_bus t.recording (settled t name).recording known))
    (on_known t columns r (bytes_eq t.recording.bus.items name) (lost_front t.recording.bus.items name))
on_either t name columns r (inr first) =
    with_bus t name columns r (settled t name).recording
    (sym (if_false t.recording.follows_bus t.recording (settled t name).recording first))
    (on_first t name columns r (bytes_eq name name) (lost_front name name) ((bytes_eq-Decides name name).1 refl))

of_name : (t : Saleae) (name : List ℕ) (columns : Columns) (r : Record) (is_empty : Bool)
    → DoesAs (if is_empty then IsFault else
    class_on_bus (record t { recording = following t.recording name }) name columns r) t
    (if is_empty then fault t MakesNoSense else
    on_bus (record t { recording = following t.recording name }) name columns r)
of_name t name columns r true = faulted t MakesNoSense
of_name t name columns r false = on_either t name columns r (bool_cases t.recording.follows_bus)

of_named : (t : Saleae) (name : List ℕ) (columns : Columns) (r : Record)
    → DoesAs (class_of_named t name columns r) t (take_named t name columns r)
of_named t name columns r = of_name t name columns r (bytes_eq name [])

of_fields : (t : Saleae) (columns : Columns) (r : Record) (b : Bool)
    → DoesAs (if b then class_of_named t (name_of columns r) columns r else IsFault) t
    (if b then take_named t (name_of columns r) columns r else fault t MakesNoSense)
of_fields t columns r true = of_named t (name_of columns r) columns r
of_fields t columns r false = faulted t MakesNoSense

-- ---- lines

of_under : (t : Saleae) (columns : Option Columns) (r : Record) → DoesAs (class_under t columns r) t (under t columns r)
of_under t (Some columns) r = of_fields t columns r (is_row columns r)
of_under t None r = faulted t MakesNoSense

of_record : (t : Saleae) (heading : Option Columns) (r : Record)
    → DoesAs (class_of_record t heading r) t (take_under t heading r)
of_record t (Some columns) r =
    Heading columns (record { told = refl; is_gone = refl; reads = refl; columns_are = refl })
of_record t None r = of_under t t.columns r

of_content : (t : Saleae) (text : Option (List ℕ)) → DoesAs (class_of t text) t (take_content t text)
of_content t None = faulted t MakesNoSense
of_content t (Some []) = Blank refl
of_content t (Some (byte ∷ line)) =
    of_record t (heading_of (record_of (byte ∷ line))) (record_of (byte ∷ line))

pub each_line : EachLineHasItsClass
each_line t given = of_content (at_next_line t) (content (t.recording.line == 0) given)
