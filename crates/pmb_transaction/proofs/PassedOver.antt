-- The events that a reader passes over after a refusal, up to and with the first STOP, and those
-- that are left. For the laws `events_are_passed_over` and `passing_goes_on`, and for readings.
-- They are found event by event; events are cut at their first STOP in one way, so there is one
-- answer.
use Rattle.std.proofs.Common.{◌≡◌, ◌≢◌, List, [], ◌∷◌, ◌++◌, inl, inr, refl, sym, ap, ◌∙◌, append_assoc}
use Rattle.std.proofs.lemmas.List.{append-nil}
use Rattle.pmb_bus.specs.declared.event.Event.{Event}
use Rattle.pmb_bus.specs.declared.event.Event.TheVariants.{Stop}
use Rattle.pmb_transaction.specs.Capture.{EndsAtFirstStop, HasNoStop}
use Rattle.pmb_transaction.specs.Reading.{PassedOver, to_first_stop, to_the_end}
use Rattle.pmb_transaction.proofs.Decided.{Decided}
use Rattle.pmb_transaction.proofs.DecidedPackets.{same_event}
use Rattle.pmb_transaction.proofs.Stops.{same_cut}

-- ---- events without STOP

none_without : HasNoStop []
none_without [] after same = cc same
none_without (x ∷ before) after same = cc same

none_with_one : (event : Event) (events : List Event) → event ≢ Stop → HasNoStop events → HasNoStop (event ∷ events)
none_with_one event events other none [] after same = other (cc same)
none_with_one event events other none (x ∷ before) after same = none before after (cc same)

-- ---- one event more

pub none_passed : PassedOver [] [] []
none_passed = to_the_end refl none_without refl

pub stop_passed : (rest : List Event) → PassedOver (Stop ∷ rest) (Stop ∷ []) rest
stop_passed rest = to_first_stop refl (record { front = []; no_stop = none_without; split = refl })

pub other_passed : (event : Event) (events passed left : List Event) → event ≢ Stop → PassedOver events passed left
    → PassedOver (event ∷ events) (event ∷ passed) left
other_passed event events passed left other (to_first_stop split ends) =
    to_first_stop (ap (λ (es : List Event). event ∷ es) split)
    (
    record {
      front = event ∷ ends.front;
      no_stop = none_with_one event ends.front other ends.no_stop;
      split = ap (λ (es : List Event). event ∷ es) ends.split;
    }
    )
other_passed event events passed left other (to_the_end all none nothing) =
    to_the_end (ap (λ (es : List Event). event ∷ es) all) (none_with_one event passed other none) nothing

-- ---- all events

one_passed : (event : Event) (events : List Event) → Decided (event ≡ Stop)
    → (passed : List Event) × (left : List Event) × PassedOver events passed left
    → (passed : List Event) × (left : List Event) × PassedOver (event ∷ events) passed left
one_passed event events (inl stop) later = (
  event ∷ [],
  events,
  to_first_stop refl (record {
    front = [];
    no_stop = none_without;
    split =
        ap (λ (e : Event). e ∷ []) stop;
  }),
)
one_passed event events (inr other) later =
    (event ∷ later.0, later.1, other_passed event events later.0 later.1 other later.2)

-- of each list of events some are passed over
pub some_passed : (events : List Event) → (passed : List Event) × (left : List Event) × PassedOver events passed left
some_passed [] = ([], [], none_passed)
some_passed (event ∷ events) = one_passed event events (same_event event Stop) (some_passed events)

-- what is passed over, then what is left
pub passed_then_left : (events passed left : List Event) → PassedOver events passed left → events ≡ passed ++ left
passed_then_left events passed left (to_first_stop split ends) = split
passed_then_left events passed left (to_the_end all none nothing) =
    all ∙ sym (append-nil passed) ∙ ap (λ (es : List Event). passed ++ es) (sym nothing)

-- the STOP, and what is left
at_stop : (events passed left : List Event) → events ≡ passed ++ left → (ends : EndsAtFirstStop passed)
    → events ≡ ends.front ++ Stop ∷ left
at_stop events passed left split ends =
    split ∙ ap (λ (es : List Event). es ++ left) ends.split ∙ append_assoc ends.front (Stop ∷ []) left

-- events are passed over in one way
pub one_way : (events a x b y : List Event) → PassedOver events a x → PassedOver events b y → (a ≡ b) × (x ≡ y)
one_way events a x b y (to_first_stop split ends) (to_first_stop other others) =
    let same =
    same_cut ends.front others.front x y ends.no_stop others.no_stop
    (sym (at_stop events a x split ends) ∙ at_stop events b y other others) in
    (ends.split ∙ ap (λ (es : List Event). es ++ Stop ∷ []) same.0 ∙ sym others.split, same.1)
one_way events a x b y (to_first_stop split ends) (to_the_end all none nothing) =
    absurd (none ends.front x (sym all ∙ at_stop events a x split ends))
one_way events a x b y (to_the_end all none nothing) (to_first_stop split ends) =
    absurd (none ends.front y (sym all ∙ at_stop events b y split ends))
one_way events a x b y (to_the_end all none nothing) (to_the_end others other_none other_nothing) =
    (sym all ∙ others, nothing ∙ sym other_nothing)

-- where some STOP is among events, more of them are left where more follow
pub more_left : (events more passed left : List Event) → (HasNoStop events → ⊥) → PassedOver events passed left
    → PassedOver (events ++ more) passed (left ++ more)
more_left events more passed left stop (to_first_stop split ends) =
    to_first_stop (ap (λ (es : List Event). es ++ more) split ∙ append_assoc passed left more) ends
more_left events more passed left stop (to_the_end all none nothing) =
    absurd (stop (λ before after same. none before after (sym all ∙ same)))
