-- How a packet under way begins, with an event more. For `Front`, and for the visits: an other's
-- address stays what it is, and its address byte alone begins one.
use Rattle.std.proofs.Common.{◌≡◌, ◌≢◌, ℕ, ◌+◌, Option, Some, None, List, [], ◌∷◌, ◌++◌, refl, sym, ap, ◌∙◌}
use Rattle.pmb_bus.specs.declared.event.Event.{Event}
use Rattle.pmb_bus.specs.declared.event.Event.TheVariants.{Start, Byte, Ack, Nack, Stop}
use Rattle.pmb_reader.specs.Reader.{Standing, Open, Held, Passing, behind_passed}
use Rattle.pmb_scan.specs.Reached.{standing_after}
use Rattle.pmb_json_objects.specs.Counts.{CountsData}
use Rattle.pmb_places.specs.declared.places.Place.{Place}
use Rattle.pmb_fact_stream.specs.declared.front.Front.TheVariants as fronts
use Rattle.pmb_fact_stream.specs.Others.{other_address}
use Rattle.pmb_fact_stream.specs.Spans.{after_open, after_some, open_facts, other_or}
use Rattle.pmb_fact_stream.specs.machine.Front.{begins_behind, begins_other, front_behind, front_of, other_begun_at}
use Rattle.pmb_fact_stream.specs.machine.Front.{other_front}

module _ (ignored : Option (List ℕ)) where
  -- ---- the address

  -- only the first two events say it
  two_say_it : (first next : Event) (events more : List Event)
      → other_address ignored (first ∷ next ∷ (events ++ more)) ≡ other_address ignored (first ∷ next ∷ events)
  two_say_it Start Start events more = refl
  two_say_it Start (Byte b) events more = refl
  two_say_it Start Ack events more = refl
  two_say_it Start Nack events more = refl
  two_say_it Start Stop events more = refl
  two_say_it (Byte b) next events more = refl
  two_say_it Ack next events more = refl
  two_say_it Nack next events more = refl
  two_say_it Stop next events more = refl

  none_of_one : (event : Event) → other_address ignored (event ∷ []) ≡ None
  none_of_one Start = refl
  none_of_one (Byte b) = refl
  none_of_one Ack = refl
  none_of_one Nack = refl
  none_of_one Stop = refl

  -- no other begins: it stays
  pub address_stays : (front : List Event) (event : Event) → begins_other ignored front event ≡ None
      → other_address ignored (front ++ event ∷ []) ≡ other_address ignored front
  address_stays [] event none = none_of_one event
  address_stays (Start ∷ []) event none = none
  address_stays (Byte b ∷ []) event none = refl
  address_stays (Ack ∷ []) event none = refl
  address_stays (Nack ∷ []) event none = refl
  address_stays (Stop ∷ []) event none = refl
  address_stays (first ∷ next ∷ events) event none = two_say_it first next events (event ∷ [])

  no_stop_begins : (front : List Event) → begins_other ignored front Stop ≡ None
  no_stop_begins [] = refl
  no_stop_begins (Start ∷ []) = refl
  no_stop_begins (Byte b ∷ []) = refl
  no_stop_begins (Ack ∷ []) = refl
  no_stop_begins (Nack ∷ []) = refl
  no_stop_begins (Stop ∷ []) = refl
  no_stop_begins (first ∷ next ∷ events) = refl

  pub address_at_stop : (front : List Event) (event : Event) → event ≡ Stop
      → other_address ignored (front ++ event ∷ []) ≡ other_address ignored front
  address_at_stop front event stop =
      ap (λ (e : Event). other_address ignored (front ++ e ∷ [])) stop ∙ address_stays front Stop (no_stop_begins front)

  -- one begins: with its address byte, after START alone
  pub record BeginsOther (front : List Event) (event : Event) (addr : ℕ) : Type 0 where
    pub alone : front ≡ Start ∷ []
    pub before : other_address ignored front ≡ None
    pub after : other_address ignored (front ++ event ∷ []) ≡ Some addr

  pub other_begins : (front : List Event) (event : Event) (addr : ℕ) → begins_other ignored front event ≡ Some addr
      → BeginsOther front event addr
  other_begins [] event addr is = absurd (cc is)
  other_begins (Start ∷ []) event addr is = record { alone = refl; before = refl; after = is }
  other_begins (Byte b ∷ []) event addr is = absurd (cc is)
  other_begins (Ack ∷ []) event addr is = absurd (cc is)
  other_begins (Nack ∷ []) event addr is = absurd (cc is)
  other_begins (Stop ∷ []) event addr is = absurd (cc is)
  other_begins (first ∷ next ∷ events) event addr is = absurd (cc is)

  -- ---- what is kept of it

  front_stays : (address : Option ℕ) (event : Event) → front_behind ignored (other_front address) event
      ≡ other_front address
  front_stays None event = refl
  front_stays (Some addr) event = refl

  pub front_more : (front : List Event) (event : Event)
      → front_behind ignored (front_of ignored front) event ≡ front_of ignored (front ++ event ∷ [])
  front_more [] Start = refl
  front_more [] (Byte b) = refl
  front_more [] Ack = refl
  front_more [] Nack = refl
  front_more [] Stop = refl
  front_more (Start ∷ []) event = refl
  front_more (Byte b ∷ []) event = refl
  front_more (Ack ∷ []) event = refl
  front_more (Nack ∷ []) event = refl
  front_more (Stop ∷ []) event = refl
  front_more (first ∷ next ∷ events) event =
      front_stays (other_address ignored (first ∷ next ∷ events)) event
      ∙ sym (ap other_front (two_say_it first next events (event ∷ [])))

  none_begins : (address : Option ℕ) (event : Event) → begins_behind ignored (other_front address) event ≡ None
  none_begins None event = refl
  none_begins (Some addr) event = refl

  pub begins_so : (front : List Event) (event : Event)
      → begins_behind ignored (front_of ignored front) event ≡ begins_other ignored front event
  begins_so [] event = refl
  begins_so (Start ∷ []) event = refl
  begins_so (Byte b ∷ []) event = refl
  begins_so (Ack ∷ []) event = refl
  begins_so (Nack ∷ []) event = refl
  begins_so (Stop ∷ []) event = refl
  begins_so (first ∷ next ∷ events) event = none_begins (other_address ignored (first ∷ next ∷ events)) event

  -- none begins with START
  pub no_other_with_start : (standing : Standing) (n : ℕ) → standing ≡ Open n []
      → other_begun_at ignored standing Start ≡ None
  no_other_with_start standing n is = ap (λ (s : Standing). other_begun_at ignored s Start) is

  -- it is an other exactly where it is kept as one
  some_other : (address : Option ℕ) → other_front address ≡ fronts.Other → (addr : ℕ) × (address ≡ Some addr)
  some_other None is = absurd (cc is)
  some_other (Some addr) is = (addr, refl)

  pub is_other_front : (front : List Event) → front_of ignored front ≡ fronts.Other
      → (addr : ℕ) × (other_address ignored front ≡ Some addr)
  is_other_front [] is = absurd (cc is)
  is_other_front (Start ∷ []) is = absurd (cc is)
  is_other_front (Byte b ∷ []) is = absurd (cc is)
  is_other_front (Ack ∷ []) is = absurd (cc is)
  is_other_front (Nack ∷ []) is = absurd (cc is)
  is_other_front (Stop ∷ []) is = absurd (cc is)
  is_other_front (first ∷ next ∷ events) is = some_other (other_address ignored (first ∷ next ∷ events)) is

  no_other : (address : Option ℕ) → other_front address ≢ fronts.Other → address ≡ None
  no_other None other = refl
  no_other (Some addr) other = absurd (other refl)

  pub is_no_other_front : (front : List Event) → front_of ignored front ≢ fronts.Other
      → other_address ignored front ≡ None
  is_no_other_front [] other = refl
  is_no_other_front (Start ∷ []) other = refl
  is_no_other_front (Byte b ∷ []) other = refl
  is_no_other_front (Ack ∷ []) other = refl
  is_no_other_front (Nack ∷ []) other = refl
  is_no_other_front (Stop ∷ []) other = refl
  is_no_other_front (first ∷ next ∷ events) other = no_other (other_address ignored (first ∷ next ∷ events)) other

  -- ---- where a scan stands

  -- an other begins only in a packet
  pub at_other : (standing : Standing) (event : Event) (addr : ℕ) → other_begun_at ignored standing event ≡ Some addr
      → (n : ℕ) × (front : List Event) × (standing ≡ Open n front) × (begins_other ignored front event ≡ Some addr)
  at_other (Open n front) event addr is = (n, front, refl, is)
  at_other (Held n refusal) event addr is = absurd (cc is)
  at_other (Passing n) event addr is = absurd (cc is)

  -- no other begins: the count of others stays
  passed_count : (c : CountsData) (n : ℕ) (event : Event) → after_open ignored c (behind_passed n event) ≡ c
  passed_count c n Start = refl
  passed_count c n (Byte b) = refl
  passed_count c n Ack = refl
  passed_count c n Nack = refl
  passed_count c n Stop = refl

  pub count_stays : (c : CountsData) (standing : Standing) (event : Event)
      → other_begun_at ignored standing event ≡ None
      → after_open ignored c (standing_after standing event) ≡ after_open ignored c standing
  count_stays c (Open n front) event none = ap (after_some c) (address_stays front event none)
  count_stays c (Held n refusal) event none = refl
  count_stays c (Passing n) event none = passed_count c n event

  pub count_behind : (c : CountsData) (n : ℕ) (event : Event) → after_open ignored c (behind_passed n event) ≡ c
  count_behind c n event = passed_count c n event

-- .. and so do the facts
module _ (ignored : Option (List ℕ)) (place : ℕ → Place) (times : ℕ → Option (List ℕ)) (m : ℕ)
  where
    pub open_behind_passed : (n : ℕ) (event : Event)
        → open_facts ignored place times m (behind_passed n event) ≡ []
    open_behind_passed n Start = refl
    open_behind_passed n (Byte b) = refl
    open_behind_passed n Ack = refl
    open_behind_passed n Nack = refl
    open_behind_passed n Stop = refl

    pub open_stays : (standing : Standing) (event : Event) → other_begun_at ignored standing event ≡ None
        → open_facts ignored place times m (standing_after standing event)
        ≡ open_facts ignored place times m standing
    open_stays (Open n front) event none = ap (λ (o : Option ℕ). other_or place times (m + n) o [])
        (address_stays ignored front event none)
    open_stays (Held n refusal) event none = refl
    open_stays (Passing n) event none = open_behind_passed n event

    -- that of an other under way, and of none
    pub open_other : (n : ℕ) (front : List Event) (addr : ℕ) → other_address ignored front ≡ Some addr
        → open_facts ignored place times m (Open n front) ≡ other_or place times (m + n)
        (Some addr) []
    open_other n front addr is = ap (λ (o : Option ℕ). other_or place times (m + n) o []) is

    pub open_none : (n : ℕ) (front : List Event) → other_address ignored front ≡ None
        → open_facts ignored place times m (Open n front) ≡ []
    open_none n front is = ap (λ (o : Option ℕ). other_or place times (m + n) o []) is
