-- How the last events go on, and what they are then.
use Rattle.std.proofs.Common.{◌≡◌, ◌∙◌, ℕ, List, [], ◌∷◌, ◌++◌, ap, refl, sym, append_assoc, append-nil}
use Rattle.pmb_bus.specs.declared.event.Event.{Event}
use Rattle.pmb_bus.specs.declared.event.Event.TheVariants as bus
use Rattle.pmb_draft.specs.declared.leg_start.LegStart.{LegStart}
use Rattle.pmb_draft.specs.declared.leg_start.LegStart.TheVariants as starts
use Rattle.pmb_draft.specs.machine.LegStart.{EndsWithStart, after_event, after_events, ending}

-- after some events and then others
pub after-append : (from : LegStart) (xs ys : List Event)
    → after_events from (xs ++ ys) ≡ after_events (after_events from xs) ys
after-append from [] ys = refl
after-append from (x ∷ xs) ys = after-append (after_event from x) xs ys

-- with one more the start of a leg goes on
longer : (from next : LegStart) (events : List Event) (event : Event) → EndsWithStart from events
    → ending next ≡ ending from ++ event ∷ []
    → (front : List Event) × (events ++ event ∷ [] ≡ front ++ ending next)
longer from next events event h is = (
  h.front,
  ap (λ (es : List Event). es ++ event ∷ []) h.whole ∙ append_assoc h.front (ending from) (event ∷ [])
      ∙ ap (λ (es : List Event). h.front ++ es) (sym is),
)

-- or ends
none : (events : List Event) (event : Event) → (front : List Event) × (events ++ event ∷ [] ≡ front ++ [])
none events event = (events ++ event ∷ [], sym (append-nil (events ++ event ∷ [])))

ending_of : (from : LegStart) (events : List Event) (event : Event) → EndsWithStart from events
    → (front : List Event) × (events ++ event ∷ [] ≡ front ++ ending (after_event from event))
ending_of from events bus.Start h = (events, refl)
ending_of starts.Elsewhere events (bus.Byte b) h = none events (bus.Byte b)
ending_of starts.Start events (bus.Byte b) h = longer starts.Start (starts.Address b) events (bus.Byte b) h refl
ending_of (starts.Address byte) events (bus.Byte b) h = none events (bus.Byte b)
ending_of (starts.Acked byte) events (bus.Byte b) h =
    longer (starts.Acked byte) (starts.Code byte b) events (bus.Byte b) h refl
ending_of (starts.Code byte code) events (bus.Byte b) h = none events (bus.Byte b)
ending_of starts.Elsewhere events bus.Ack h = none events bus.Ack
ending_of starts.Start events bus.Ack h = none events bus.Ack
ending_of (starts.Address byte) events bus.Ack h =
    longer (starts.Address byte) (starts.Acked byte) events bus.Ack h refl
ending_of (starts.Acked byte) events bus.Ack h = none events bus.Ack
ending_of (starts.Code byte code) events bus.Ack h = none events bus.Ack
ending_of from events bus.Nack h = none events bus.Nack
ending_of from events bus.Stop h = none events bus.Stop

-- so what the last events are is known with one more
pub start_goes_on : (from : LegStart) (events : List Event) (event : Event) → EndsWithStart from events
    → EndsWithStart (after_event from event) (events ++ event ∷ [])
start_goes_on from events event h =
    let end = ending_of from events event h in record {
      front = end.0;
      whole = end.1;
      exact = ap (λ (s : LegStart). after_event s event) h.exact
          ∙ sym (after-append starts.Elsewhere events (event ∷ []));
    }

-- after START and a byte they are those of an address
pub address_is : (from : LegStart) (events before : List Event) (byte : ℕ) → EndsWithStart from events
    → events ≡ before ++ bus.Start ∷ bus.Byte byte ∷ [] → from ≡ starts.Address byte
address_is from events before byte h is =
    h.exact ∙ ap (after_events starts.Elsewhere) is
    ∙ after-append starts.Elsewhere before (bus.Start ∷ bus.Byte byte ∷ [])

-- and after its ACK and another byte those of a code
pub code_is : (from : LegStart) (events before : List Event) (byte code : ℕ) → EndsWithStart from events
    → events ≡ before ++ bus.Start ∷ bus.Byte byte ∷ bus.Ack ∷ bus.Byte code ∷ []
    → from ≡ starts.Code byte code
code_is from events before byte code h is =
    h.exact ∙ ap (after_events starts.Elsewhere) is
    ∙ after-append starts.Elsewhere before (bus.Start ∷ bus.Byte byte ∷ bus.Ack ∷ bus.Byte code ∷ [])
