-- What is under way after one event more, and its time. For `OpenTime`, whose time is that of the
-- first event after the last STOP, and for the functions of `Stream` that put out objects: where a
-- packet is read, that event is the packet's first.
use Rattle.std.proofs.Common.{◌≡◌, ◌≢◌, ℕ, ◌+◌, ◌-◌, true, false, Option, None, List, [], ◌∷◌, ◌++◌, length}
use Rattle.std.proofs.Common.{append_assoc}
use Rattle.std.proofs.Common.{length-append, refl, sym, ap, ◌∙◌, arith}
use Rattle.std.proofs.lemmas.List.Sums.{fold-append}
use Rattle.pmb_bus.specs.declared.event.Event.{Event}
use Rattle.pmb_bus.specs.declared.event.Event.TheVariants.{Start, Byte, Ack, Nack, Stop}
use Rattle.pmb_bus.specs.Text.{Spells}
use Rattle.pmb_reader.specs.Reader.{Standing, Open, Held, Passing, behind_passed}
use Rattle.pmb_scan.specs.Reached.{MayGoOn, standing_after}
use Rattle.pmb_times.specs.Text.{time_at, time_of_last_word}
use Rattle.pmb_fact_stream.specs.declared.open_time.OpenTime.{OpenTime}
use Rattle.pmb_fact_stream.specs.Spans.{event_time}
use Rattle.pmb_fact_stream.specs.UnderWay.{more_under_way, open_time, time_of_some, under_way, up_to_stop}
use Rattle.pmb_fact_stream.specs.machine.Knowing.{IsUnderWay}
use Rattle.pmb_fact_stream.specs.machine.OpenTime.{HasTime, KeepsTime, are_some, kept_time}

-- ---- events

pub one_more : (events : List Event) (event : Event)
    → under_way (events ++ event ∷ []) ≡ more_under_way (under_way events) event
one_more events event = fold-append more_under_way [] events (event ∷ [])

pub behind_stop : (events : List Event) → under_way (events ++ Stop ∷ []) ≡ []
behind_stop events = one_more events Stop

-- any other event goes on with it
goes_on : (own : List Event) (event : Event) → event ≢ Stop → more_under_way own event ≡ own ++ event ∷ []
goes_on own Start other = refl
goes_on own (Byte b) other = refl
goes_on own Ack other = refl
goes_on own Nack other = refl
goes_on own Stop other = absurd (other refl)

pub with_one_more : (events : List Event) (event : Event) → event ≢ Stop
    → under_way (events ++ event ∷ []) ≡ under_way events ++ event ∷ []
with_one_more events event other = one_more events event ∙ goes_on (under_way events) event other

-- .. and its first one stays
same_first : (events : List Event) (event : Event) → event ≢ Stop
    → up_to_stop (events ++ event ∷ []) ≡ up_to_stop events
same_first events event other =
    let all = length-append events (event ∷ []) in
    let own = ap (λ (l : List Event). length l) (with_one_more events event other)
    ∙ length-append (under_way events) (event ∷ []) in
    omega (arith, all, own)

-- ---- where a scan stands

pub under_passed : (n : ℕ) (events : List Event) (event : Event)
    → IsUnderWay (behind_passed n event) (events ++ event ∷ [])
under_passed n events Start = tt
under_passed n events (Byte b) = tt
under_passed n events Ack = tt
under_passed n events Nack = tt
under_passed n events Stop = behind_stop events

pub under_event : (standing : Standing) (events : List Event) (event : Event) → IsUnderWay standing events
    → MayGoOn standing event → IsUnderWay (standing_after standing event) (events ++ event ∷ [])
under_event (Open n own) events event is may =
    with_one_more events event may ∙ ap (λ (l : List Event). l ++ event ∷ []) is
under_event (Held n refusal) events event is may = tt
under_event (Passing n) events event is may = under_passed n events event

-- ---- its time

some_time : (own : List Event) (time : Option (List ℕ)) → are_some own ≡ true → time_of_some own time ≡ time
some_time [] time some = absurd (cc some)
some_time (event ∷ own) time some = refl

are_some_more : (own : List Event) (event : Event) → are_some (own ++ event ∷ []) ≡ true
are_some_more [] event = refl
are_some_more (first ∷ own) event = refl

none_open : (own : List Event) → are_some own ≡ false → own ≡ []
none_open [] none = refl
none_open (event ∷ own) none = absurd (cc none)

-- where something is under way, its time was taken
pub has_open_time : (kept : OpenTime) (text : List ℕ) (events : List Event) → kept.is_open ≡ true
    → KeepsTime kept text events → HasTime kept text events
has_open_time kept text events is keeps = record {
  is_open = is;
  time = λ more. keeps.time more
      ∙ some_time (under_way events) (time_at (text ++ more) (up_to_stop events)) (sym keeps.is_open ∙ is);
}

-- a law of `pmb_times`: of events that a text spells the last one has the last word's time
abbrev pub LastWordHasTime : Type 0
LastWordHasTime = (text more : List ℕ) (events : List Event) (event : Event) → Spells text (events ++ event ∷ [])
    → time_at (text ++ more) (length events) ≡ time_of_last_word text

-- else it is taken from the last word
pub has_first_time : LastWordHasTime → (old new : OpenTime) (text : List ℕ) (events : List Event) (event : Event)
    → old.is_open ≡ false → new.is_open ≡ true
    → kept_time new ≡ time_of_last_word text → KeepsTime old text events → Spells text (events ++ event ∷ [])
    → HasTime new text events
has_first_time law old new text events event closed is taken keeps spells = record {
  is_open = is;
  time = λ more.
      let none = none_open (under_way events) (sym keeps.is_open ∙ closed) in
      let first : up_to_stop events ≡ length events = omega (arith, ap (λ (l : List Event). length l) none) in
      taken ∙ sym (law text more events event spells) ∙ ap (time_at (text ++ more)) (sym first);
}

-- an event that is no STOP goes on with it
pub keeps_on : (kept : OpenTime) (text : List ℕ) (events : List Event) (event : Event) → event ≢ Stop
    → HasTime kept text events → KeepsTime kept text (events ++ event ∷ [])
keeps_on kept text events event other has =
    let more_own = with_one_more events event other in record {
      is_open = has.is_open ∙ sym (ap are_some more_own ∙ are_some_more (under_way events) event);
      time = λ more.
          let time = time_at (text ++ more) in
          has.time more ∙ ap time (sym (same_first events event other))
          ∙ sym (some_time (under_way (events ++ event ∷ [])) (time (up_to_stop (events ++ event ∷ [])))
          (ap are_some more_own ∙ are_some_more (under_way events) event));
    }

-- STOP ends it
pub keeps_none_behind_stop : (kept : OpenTime) (text : List ℕ) (events : List Event) → kept.is_open ≡ false
    → kept_time kept ≡ None → KeepsTime kept text (events ++ Stop ∷ [])
keeps_none_behind_stop kept text events closed none =
    let ended = behind_stop events in record {
      is_open = closed ∙ sym (ap are_some ended);
      time = λ more. none ∙ sym (ap (λ (l : List Event). time_of_some l
          (time_at (text ++ more) (up_to_stop (events ++ Stop ∷ [])))) ended);
    }

-- bytes more change nothing
pub keeps_time_behind : (kept : OpenTime) (text bytes : List ℕ) (events : List Event) → KeepsTime kept text events
    → KeepsTime kept (text ++ bytes) events
keeps_time_behind kept text bytes events keeps = record {
  is_open = keeps.is_open;
  time = λ more. keeps.time (bytes ++ more)
      ∙ ap (λ (l : List ℕ). open_time l events) (sym (append_assoc text bytes more));
}

-- ---- of a packet, which began after n events

first_of_packet : (m n : ℕ) (events front : List Event) → under_way events ≡ front
    → n + length front ≡ length events → up_to_stop events ≡ (m + n) - m
first_of_packet m n events front is counted = omega (arith, counted, ap (λ (l : List Event). length l) is)

pub time_of_packet : (kept : OpenTime) (text : List ℕ) (events front : List Event) (m n : ℕ)
    → under_way events ≡ front → n + length front ≡ length events → HasTime kept text events
    → (more : List ℕ) → kept_time kept ≡ event_time m (text ++ more) (m + n)
time_of_packet kept text events front m n is counted has more =
    has.time more ∙ ap (time_at (text ++ more)) (first_of_packet m n events front is counted)

-- once it has begun, its time is kept
pub time_in_packet : (kept : OpenTime) (text : List ℕ) (events front : List Event) (m n : ℕ)
    → under_way events ≡ front → n + length front ≡ length events → front ≢ [] → KeepsTime kept text events
    → (more : List ℕ) → kept_time kept ≡ event_time m (text ++ more) (m + n)
time_in_packet kept text events front m n is counted some keeps =
    time_of_packet kept text events front m n is counted
    (has_open_time kept text events (keeps.is_open ∙ ap are_some is ∙ are_there front some) keeps)
  where
    are_there : (front : List Event) → front ≢ [] → are_some front ≡ true
    are_there [] some = absurd (some refl)
    are_there (event ∷ front) some = refl
