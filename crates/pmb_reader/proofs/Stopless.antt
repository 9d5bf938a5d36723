-- Lists of events without a STOP, and up to the first one. For `Reader::feed` and the laws of
-- reading, by Feeding and Accounts: while a reader passes over events, none of them was a STOP.
use Rattle.std.proofs.Common.{◌≡◌, List, [], ◌∷◌, ◌++◌, ap, ◌∙◌, append_assoc}
use Rattle.pmb_bus.specs.declared.event.Event.{Event}
use Rattle.pmb_bus.specs.declared.event.Event.TheVariants.{Stop}
use Rattle.pmb_transaction.specs.Capture.{EndsAtFirstStop, HasNoStop}

pub no_stop_in_none : HasNoStop []
no_stop_in_none [] after split = cc split
no_stop_in_none (e ∷ before) after split = cc split

-- nor is a STOP among those after the first
pub in_tail : (first : Event) (events : List Event) → HasNoStop (first ∷ events) → HasNoStop events
in_tail first events none before after split = none (first ∷ before) after (ap (λ (es : List Event). first ∷ es) split)

-- one event more that is none
pub no_stop_in_more : (events : List Event) (event : Event) → HasNoStop events → (event ≡ Stop → ⊥)
    → HasNoStop (events ++ event ∷ [])
no_stop_in_more [] event none other [] after split = other (cc split)
no_stop_in_more [] event none other (e ∷ before) after split =
    let rest : [] ≡ before ++ Stop ∷ after = cc split in
    no_stop_in_none before after rest
no_stop_in_more (first ∷ events) event none other [] after split =
    let same : first ≡ Stop = cc split in
    none [] events (ap (λ (e : Event). e ∷ events) same)
no_stop_in_more (first ∷ events) event none other (e ∷ before) after split =
    let rest : events ++ event ∷ [] ≡ before ++ Stop ∷ after = cc split in
    no_stop_in_more events event (in_tail first events none) other before after rest

-- events up to and including the first STOP are not none
pub none_ends : (passed rest : List Event) → [] ≡ passed ++ rest → EndsAtFirstStop passed → ⊥
none_ends passed rest split ends =
    no_stop_in_none ends.front rest
    (split ∙ ap (λ (es : List Event). es ++ rest) ends.split ∙ append_assoc ends.front (Stop ∷ []) rest)
