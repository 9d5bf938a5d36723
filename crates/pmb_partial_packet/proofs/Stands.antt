-- What a `PartialPacket` stands at after one event more: the legs it keeps, and the packet error
-- codes over all bytes, over the leg, and over the leg but for its last byte. For `new`, `start`,
-- `begin`, `take` and `take_byte`. A byte carries each code on, START begins a leg without bytes,
-- and other events change nothing.
use Rattle.std.proofs.Common.{◌≡◌, ◌≢◌, ℕ, ◌%◌, ◌==◌, Bool, true, false, cond, List, [], ◌∷◌, ◌++◌, reverse, refl, sym}
use Rattle.std.proofs.Common.{ap, subst, ◌∙◌}
use Rattle.std.specs.List.{find}
use Rattle.std.proofs.lemmas.List.{append-nil}
use Rattle.pmb_bus.specs.declared.event.Event.{Event}
use Rattle.pmb_bus.specs.declared.event.Event.TheVariants.{Start, Byte, Ack, Nack, Stop}
use Rattle.pmb_bus.specs.Pec.{pec}
use Rattle.pmb_bus.proofs.Codes.{pec_of_nothing}
use Rattle.pmb_partial_packet.specs.declared.legs.LastLeg.TheVariants.{Absent, Written, Read}
use Rattle.pmb_partial_packet.specs.declared.partial_packet.PartialPacket.{PartialPacket}
use Rattle.pmb_partial_packet.specs.PartialPacket.{all_bytes, bytes_of_leg, but_last, leg_or_none, legs}
use Rattle.pmb_partial_packet.specs.machine.KeptLegs.{KeepsLegs, LegsData, after_byte, after_start, last_of}
use Rattle.pmb_partial_packet.specs.machine.Keeping.{SaidStandsAt}
use Rattle.pmb_partial_packet.proofs.Onwards.{backwards, keeps_byte, keeps_start, next_legs, one_byte_more}
use Rattle.pmb_partial_packet.proofs.Onwards.{one_leg_more}

all_go_on : (events more : List Event) → all_bytes (events ++ more) ≡ all_bytes events ++ all_bytes more
all_go_on [] more = refl
all_go_on (Start ∷ events) more = all_go_on events more
all_go_on (Byte b ∷ events) more = ap (λ (bs : List ℕ). b ∷ bs) (all_go_on events more)
all_go_on (Ack ∷ events) more = all_go_on events more
all_go_on (Nack ∷ events) more = all_go_on events more
all_go_on (Stop ∷ events) more = all_go_on events more

no_bytes_more : (event : Event) (events : List Event) → all_bytes (event ∷ []) ≡ []
    → all_bytes (events ++ event ∷ []) ≡ all_bytes events
no_bytes_more event events none =
    all_go_on events (event ∷ []) ∙ ap (λ (bs : List ℕ). all_bytes events ++ bs) none ∙ append-nil (all_bytes events)

but_last-append : (bytes : List ℕ) (b : ℕ) → but_last (bytes ++ b ∷ []) ≡ bytes
but_last-append [] b = refl
but_last-append (c ∷ []) b = refl
but_last-append (c ∷ d ∷ bytes) b = ap (λ (bs : List ℕ). c ∷ bs) (but_last-append (d ∷ bytes) b)

-- the last one's bytes, which stands first
abbrev first_of : List (List ℕ) → List ℕ
first_of all = leg_or_none (find (λ leg. true) all)

-- ---- at the start

pub stands_at_nothing : (k : LegsData) → KeepsLegs k []
    → SaidStandsAt (record { legs = k; all = 0; leg = 0; before = 0 }) []
stands_at_nothing k keeps = record { legs = keeps; all = pec_of_nothing; leg = pec_of_nothing; before = pec_of_nothing }

-- ---- after START

pub stands_at_start : (said : PartialPacket) (k : LegsData) (events : List Event) → k ≡ after_start said.legs
    → SaidStandsAt said events
    → SaidStandsAt (record { legs = k; all = said.all; leg = 0; before = 0 }) (events ++ Start ∷ [])
stands_at_start said k events is stands =
    let more : reverse (legs (events ++ Start ∷ [])) ≡ [] ∷ reverse (legs events) = one_leg_more events in
    record {
      legs = subst (λ (all : List (List ℕ)). KeepsLegs k all) (sym more)
          (subst (λ (l : LegsData). KeepsLegs l ([] ∷ reverse (legs events))) (sym is)
          (keeps_start said.legs (reverse (legs events)) stands.legs));
      all = ap pec (no_bytes_more Start events refl) ∙ stands.all;
      leg = ap (λ (all : List (List ℕ)). pec (first_of all)) more ∙ pec_of_nothing;
      before = ap (λ (all : List (List ℕ)). pec (but_last (first_of all))) more ∙ pec_of_nothing;
    }

-- ---- after a byte

-- a packet error code goes on so
abbrev pub GoesOn : ℕ → ℕ → ℕ → Type 0
GoesOn code b next = (bytes : List ℕ) → pec bytes ≡ code → next ≡ pec (bytes ++ b ∷ [])

leg_goes_on : (all : List (List ℕ)) (b code next : ℕ) → last_of all ≢ Absent → GoesOn code b next
    → pec (first_of all) ≡ code
    → pec (first_of (next_legs b all)) ≡ next
leg_goes_on [] b code next some on same = absurd (some refl)
leg_goes_on (leg ∷ before) b code next some on same = sym (on leg same)

before_goes_on : (all : List (List ℕ)) (b code : ℕ) → last_of all ≢ Absent → pec (first_of all) ≡ code
    → pec (but_last (first_of (next_legs b all))) ≡ code
before_goes_on [] b code some same = absurd (some refl)
before_goes_on (leg ∷ before) b code some same = ap pec (but_last-append leg b) ∙ same

all_goes_on : (events : List Event) (b code next : ℕ) → GoesOn code b next → pec (all_bytes events) ≡ code
    → pec (all_bytes (events ++ Byte b ∷ [])) ≡ next
all_goes_on events b code next on same = ap pec (all_go_on events (Byte b ∷ [])) ∙ sym (on (all_bytes events) same)

pub stands_at_byte : (said : PartialPacket) (k : LegsData) (all leg b : ℕ) (events : List Event)
    → k ≡ after_byte said.legs b → said.legs.last ≢ Absent
    → GoesOn said.all b all → GoesOn said.leg b leg → SaidStandsAt said events
    → SaidStandsAt (record { legs = k; all = all; leg = leg; before = said.leg }) (events ++ Byte b ∷ [])
stands_at_byte said k all leg b events is some all_on leg_on stands =
    let before = reverse (legs events) in
    let more : reverse (legs (events ++ Byte b ∷ [])) ≡ next_legs b before = one_byte_more events b in
    let some_leg : last_of before ≢ Absent = λ absent. some (stands.legs.last ∙ absent) in
    record {
      legs = subst (λ (ls : List (List ℕ)). KeepsLegs k ls) (sym more)
          (subst (λ (l : LegsData). KeepsLegs l (next_legs b before)) (sym is)
          (keeps_byte said.legs before b stands.legs));
      all = all_goes_on events b said.all all all_on stands.all;
      leg = ap (λ (ls : List (List ℕ)). pec (first_of ls)) more
          ∙ leg_goes_on before b said.leg leg some_leg leg_on stands.leg;
      before = ap (λ (ls : List (List ℕ)). pec (but_last (first_of ls))) more
          ∙ before_goes_on before b said.leg some_leg stands.leg;
    }

some_sort : (even : Bool) → cond even Written Read ≡ Absent → ⊥
some_sort true absent = cc absent
some_sort false absent = cc absent

no_leg : (all : List (List ℕ)) (b : ℕ) → last_of all ≡ Absent → next_legs b all ≡ all
no_leg [] b absent = refl
no_leg ([] ∷ before) b absent = absurd (cc absent)
no_leg ((address ∷ bytes) ∷ before) b absent = absurd (some_sort (address % 2 == 0) absent)

-- a byte before all legs
pub stands_at_lone_byte : (said : PartialPacket) (all b : ℕ) (events : List Event) → said.legs.last ≡ Absent
    → GoesOn said.all b all → SaidStandsAt said events
    → SaidStandsAt (record { legs = said.legs; all = all; leg = said.leg; before = said.before })
    (events ++ Byte b ∷ [])
stands_at_lone_byte said all b events absent all_on stands =
    let before = reverse (legs events) in
    let same : reverse (legs (events ++ Byte b ∷ [])) ≡ before = one_byte_more events b
    ∙ no_leg before b (sym stands.legs.last ∙ absent) in
    record {
      legs = subst (λ (ls : List (List ℕ)). KeepsLegs said.legs ls) (sym same) stands.legs;
      all = all_goes_on events b said.all all all_on stands.all;
      leg = ap (λ (ls : List (List ℕ)). pec (first_of ls)) same ∙ stands.leg;
      before = ap (λ (ls : List (List ℕ)). pec (but_last (first_of ls))) same ∙ stands.before;
    }

-- ---- after another event

abbrev IsQuiet : Event → Type 0
IsQuiet event = (bytes_of_leg (event ∷ []) ≡ []) × (legs (event ∷ []) ≡ []) × (all_bytes (event ∷ []) ≡ [])

stands_at_quiet : (said : PartialPacket) (event : Event) (events : List Event) → IsQuiet event
    → SaidStandsAt said events → SaidStandsAt said (events ++ event ∷ [])
stands_at_quiet said event events quiet stands =
    let same : reverse (legs (events ++ event ∷ [])) ≡ reverse (legs events) =
    backwards event quiet.0 events ∙ ap (λ (ls : List (List ℕ)). reverse ls ++ reverse (legs events)) quiet.1 in
    record {
      legs = subst (λ (ls : List (List ℕ)). KeepsLegs said.legs ls) (sym same) stands.legs;
      all = ap pec (no_bytes_more event events quiet.2) ∙ stands.all;
      leg = ap (λ (ls : List (List ℕ)). pec (first_of ls)) same ∙ stands.leg;
      before = ap (λ (ls : List (List ℕ)). pec (but_last (first_of ls))) same ∙ stands.before;
    }

pub stands_at_ack : (said : PartialPacket) (events : List Event) → SaidStandsAt said events
    → SaidStandsAt said (events ++ Ack ∷ [])
stands_at_ack said events stands = stands_at_quiet said Ack events (refl, refl, refl) stands

pub stands_at_nack : (said : PartialPacket) (events : List Event) → SaidStandsAt said events
    → SaidStandsAt said (events ++ Nack ∷ [])
stands_at_nack said events stands = stands_at_quiet said Nack events (refl, refl, refl) stands

pub stands_at_stop : (said : PartialPacket) (events : List Event) → SaidStandsAt said events
    → SaidStandsAt said (events ++ Stop ∷ [])
stands_at_stop said events stands = stands_at_quiet said Stop events (refl, refl, refl) stands
