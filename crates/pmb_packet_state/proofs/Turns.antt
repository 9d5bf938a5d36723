-- The events that have their turn at a place, and that what a step comes to is what an event comes
-- to. For `PacketState::step`. An event without its turn may not follow (a law of
-- `pmb_transaction`), so the step refuses it and need not ask.
use Rattle.std.proofs.Common.{◌≡◌, ◌≢◌, true, List, [], ◌∷◌, ◌++◌, refl, subst, sym}
use Rattle.pmb_bus.specs.declared.event.Event.{Event}
use Rattle.pmb_bus.specs.declared.event.Event.TheVariants as events_are
use Rattle.pmb_bus.specs.Address.{read_address, write_address}
use Rattle.pmb_command.specs.Parts.{DeviceParts}
use Rattle.pmb_transaction.specs.Capture.{MayFollow}
use Rattle.pmb_transaction.specs.Reading.{IsUnderWay}
use Rattle.pmb_transaction.specs.Turns.{follows_in_turn}
use Rattle.pmb_packet_state.specs.declared.packet_state.Move.{Move}
use Rattle.pmb_packet_state.specs.declared.packet_state.Move.TheVariants as moves
use Rattle.pmb_packet_state.specs.declared.packet_state.PacketPlace.{PacketPlace}
use Rattle.pmb_packet_state.specs.declared.packet_state.PacketPlace.TheVariants.{Between, Start, Address, Leg, LegByte}
use Rattle.pmb_packet_state.specs.declared.packet_state.PacketPlace.TheVariants.{Restart, ReadAddress, Answer}
use Rattle.pmb_packet_state.specs.declared.packet_state.PacketPlace.TheVariants.{AnswerByte, End}
use Rattle.pmb_packet_state.specs.declared.packet_state.PacketState.{PacketState}
use Rattle.pmb_packet_state.specs.PacketState.{Moves}
use Rattle.pmb_packet_state.specs.machine.PacketState.{IsPacketPlace, StandsIn, Steps, has_turn}
use Rattle.pmb_packet_state.proofs.Steps.{EndsWith, TakeTurns}
use Rattle.pmb_packet_state.proofs.WrittenLegs.{address_ends, byte_ends, in_leg_ends, start_ends}
use Rattle.pmb_packet_state.proofs.AnsweredLegs.{answer_byte_ends, in_answer_ends, read_address_ends}

module _ (turns : TakeTurns) (profile : List DeviceParts) where
  turn_after : (events : List Event) (before event : Event) → EndsWith events before → MayFollow profile events event
      → follows_in_turn before event ≡ true
  turn_after events before event ends follows =
      turns profile ends.front before event (subst (λ (es : List Event). MayFollow profile es event) ends.split follows)

  -- what may follow has its turn
  pub in_turn : (u : PacketState) (place : PacketPlace) (events : List Event) (event : Event)
      → IsPacketPlace place profile u events → MayFollow profile events event
      → has_turn place event ≡ true
  in_turn u Between events event here follows = refl
  in_turn u Start events event here follows = turn_after events events_are.Start event
      (record { front = []; split = here.0 }) follows
  in_turn u (Address addr) events event here follows = turn_after events (events_are.Byte (write_address addr)) event
      (address_ends profile u addr events here) follows
  in_turn u Leg events event here follows = turn_after events events_are.Ack event
      (in_leg_ends profile u.kept here.written here.parts events here.leg) follows
  in_turn u (LegByte byte) events event here follows = turn_after events (events_are.Byte byte) event
      (byte_ends profile u byte events here) follows
  in_turn u Restart events event here follows = turn_after events events_are.Start event
      (start_ends profile u events here) follows
  in_turn u (ReadAddress source) events event here follows =
      turn_after events (events_are.Byte (read_address here.addr)) event
      (read_address_ends profile u source events here) follows
  in_turn u (Answer source) events event here follows = turn_after events events_are.Ack event
      (in_answer_ends profile u source events here) follows
  in_turn u (AnswerByte source) events event here follows = turn_after events (events_are.Byte here.byte) event
      (answer_byte_ends profile u source events here) follows
  in_turn u End events event here follows = turn_after events events_are.Nack event
      (record { front = here.front; split = here.spelled }) follows

  -- what an event comes to at a place, it comes to
  pub steps_are_moves : ((profile : List DeviceParts) (events : List Event) (event : Event)
      → MayFollow profile events event → event ≢ events_are.Stop
      → IsUnderWay profile (events ++ event ∷ []))
      → (before : PacketState) (events : List Event) (event : Event) (move : Move) (after : PacketState)
      → StandsIn profile before events
      → Steps profile before events event move after → Moves profile before events event move after
  steps_are_moves go before events event moves.On after stands on =
      record { known = on.known; bus = on.bus; goes = go profile events event on.follows on.no_stop; place = on.place }
  steps_are_moves go before events event moves.Packet after stands ends = ends
  steps_are_moves go before events event moves.Refused after stands refused =
      (λ follows. refused.0 (in_turn before before.place events event stands.place follows) follows, refused.1)

  -- so does the event that is given
  pub given_moves : ((profile : List DeviceParts) (events : List Event) (event : Event) → MayFollow profile events event
      → event ≢ events_are.Stop
      → IsUnderWay profile (events ++ event ∷ []))
      → (before : PacketState) (events : List Event) (given event : Event) (move : Move) (after : PacketState)
      → given ≡ event → StandsIn profile before events
      → Steps profile before events event move after → Moves profile before events given move after
  given_moves go before events given event move after is stands steps =
      steps_are_moves go before events given move after stands
      (subst (λ (e : Event). Steps profile before events e move after) (sym is) steps)
