-- How far the last events go with those that a leg begins with.
use Rattle.std.specs.Prelude.{◌≡◌, ℕ, List, [], ◌∷◌, ◌++◌}
use Rattle.pmb_bus.specs.declared.event.Event.{Event}
use Rattle.pmb_bus.specs.declared.event.Event.TheVariants as bus
use Rattle.pmb_draft.specs.declared.leg_start.LegStart.{LegStart}
use Rattle.pmb_draft.specs.declared.leg_start.LegStart.TheVariants as starts

abbrev pub after_byte : LegStart → ℕ → LegStart
after_byte starts.Elsewhere b = starts.Elsewhere
after_byte starts.Start b = starts.Address b
after_byte (starts.Address byte) b = starts.Elsewhere
after_byte (starts.Acked byte) b = starts.Code byte b
after_byte (starts.Code byte code) b = starts.Elsewhere

abbrev pub after_ack : LegStart → LegStart
after_ack starts.Elsewhere = starts.Elsewhere
after_ack starts.Start = starts.Elsewhere
after_ack (starts.Address byte) = starts.Acked byte
after_ack (starts.Acked byte) = starts.Elsewhere
after_ack (starts.Code byte code) = starts.Elsewhere

abbrev pub after_event : LegStart → Event → LegStart
after_event _ bus.Start = starts.Start
after_event before (bus.Byte b) = after_byte before b
after_event before bus.Ack = after_ack before
after_event _ bus.Nack = starts.Elsewhere
after_event _ bus.Stop = starts.Elsewhere

-- after all of some events
abbrev pub after_events : LegStart → List Event → LegStart
after_events before [] = before
after_events before (event ∷ events) = after_events (after_event before event) events

-- the last events
abbrev pub ending : LegStart → List Event
ending starts.Elsewhere = []
ending starts.Start = bus.Start ∷ []
ending (starts.Address byte) = bus.Start ∷ bus.Byte byte ∷ []
ending (starts.Acked byte) = bus.Start ∷ bus.Byte byte ∷ bus.Ack ∷ []
ending (starts.Code byte code) = bus.Start ∷ bus.Byte byte ∷ bus.Ack ∷ bus.Byte code ∷ []

-- the events end with those of a start of a leg, and go no further with one
pub record EndsWithStart (start : LegStart) (events : List Event) : Type 0 where
  pub front : List Event
  pub whole : events ≡ front ++ ending start
  pub exact : start ≡ after_events starts.Elsewhere events
