-- Where the one STOP of a packet is: events without any, and STOP after them. For `write_events`
-- and `end_with` of `src/packets.rt`, and `push_byte` and `push_leg` of `src/legs.rt`, which build
-- a packet event by event. One event more that is no STOP leaves none among them.
use Rattle.std.proofs.Common.{◌≡◌, ◌≢◌, List, [], ◌∷◌, ◌++◌, refl, sym, subst, arith}
use Rattle.std.specs.List.{All, Contains}
use Rattle.std.proofs.lemmas.List.Elements.{All-contains, All-push, Contains-append_right}
use Rattle.pmb_bus.specs.declared.event.Event.{Event}
use Rattle.pmb_bus.specs.declared.event.Event.TheVariants.{Stop}
use Rattle.pmb_transaction.specs.Capture.{EndsAtFirstStop, HasNoStop}
use Rattle.plain_packets.specs.Stops.{NoneStops}

-- one event more that is none
pub one_more : (events : List Event) (event : Event) → NoneStops events → event ≢ Stop
    → NoneStops (events ++ event ∷ [])
one_more events event none other = All-push (λ (e : Event). e ≢ Stop) events event none other

-- where none is STOP, there is no STOP among the events
pub no_stop : (events : List Event) → NoneStops events → HasNoStop events
no_stop events none before after split =
    let stands : Contains (before ++ Stop ∷ after) Stop = Contains-append_right before (Stop ∷ after) Stop
    (0, omega arith, refl) in
    All-contains (λ (event : Event). event ≢ Stop) events Stop none
    (subst (λ (all : List Event). Contains all Stop) (sym split) stands) refl

-- one STOP after such events ends them
pub ends : (front : List Event) → NoneStops front → EndsAtFirstStop (front ++ Stop ∷ [])
ends front none = record { front = front; no_stop = no_stop front none; split = refl }
