use Rattle.std.proofs.Common.{◌<◌, ℕ, List, length, ap, sym, arith, ◌∙◌}
use Rattle.pmb_bus.specs.declared.event.Event.TheVariants.{Start, Byte, Stop}
use Rattle.pmb_command.specs.Wire.{IsByte}
use Rattle.pmb_transaction.specs.Transaction.{PartData}
use Rattle.pmb_transaction.specs.Body.{IsWriteBody}
use Rattle.pmb_transaction.specs.Viable.{IsInsideBody}
use Rattle.pmb_transaction.specs.Following.{LegMayFollow}
use Rattle.pmb_packet_state.specs.declared.packet_state.PacketPlace.TheVariants as places
use Rattle.pmb_packet_state.proofs.NoAnswers.{no_answers_may_follow}
use Rattle.pmb_packet_state.proofs.Steps.{at_place}
use Rattle.pmb_packet_state.proofs.WrittenLegs.{in_leg_ends, kept_leg, leg_law}
use Rattle.pmb_packet_state.proofs.packet_state.PacketState.expected_in_leg.Goals as goal

pub returns : goal.returns
returns c = λ profile events at stands.
    let bus = stands.bus in
    let here = at_place profile c.args.self.now events places.Leg at stands in
    let leg = kept_leg profile c.args.self.now c.in-Some.leg events c.in-Some.is here in
    let kept = c.args.self.now.kept in
    let starts = leg_law profile bus kept c.in-Some.leg leg.0 events leg.1 Start
    (λ device parts addr bytes. LegMayFollow device parts bytes) (c.legs_follow_whole_bodies.ensures profile) in
    let stops = leg_law profile bus kept c.in-Some.leg leg.0 events leg.1 Stop
    (λ device parts addr bytes. IsWriteBody device bytes) (c.writes_end_with_stop.ensures profile) in
    let bytes = λ (b : ℕ).
    leg_law profile bus kept c.in-Some.leg leg.0 events leg.1 (Byte b)
    (λ device parts addr taken. IsInsideBody device parts taken × IsByte b)
    (λ parts legs addr device taken. c.bytes_follow_inside_a_body.ensures profile parts legs addr device taken b) in
    let count = ap (λ (ps : List PartData). length ps) (sym leg.1.has.same) ∙ sym c.part_count.ensures in
    let may = c.leg_may_follow.ensures leg.0 count leg.1.place in
    let inside = c.goes_on.ensures.inside leg.0 leg.1.place in
    let zero_is_small : 0 < 256 = omega arith in
    no_answers_may_follow c.events_take_turns.ensures profile events
    (in_leg_ends profile kept c.in-Some.leg leg.0 events leg.1) c.no_answers.result c.leg_may_follow.result
    c.goes_on.result c.is_part.result
    (record {
      known = c.no_answers.ensures.known;
      start_is = c.no_answers.ensures.start;
      byte_is =
          c.no_answers.ensures.byte;
      stop_is = c.no_answers.ensures.stop;
      no_ack = c.no_answers.ensures.ack;
      no_nack =
          c.no_answers.ensures.nack;
    })
    (λ yes. starts.1 (may.0 yes), λ follows. may.1 (starts.0 follows))
    (λ b follows. inside.1 ((bytes b).0 follows).0)
    (λ yes. (bytes 0).1 (inside.0 yes, zero_is_small))
    (λ yes. stops.1 (c.is_part.ensures.0 yes), λ follows. c.is_part.ensures.1 (stops.0 follows))
