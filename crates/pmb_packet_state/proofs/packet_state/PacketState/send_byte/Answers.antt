use Rattle.std.proofs.Common.{◌<◌, arith, refl}
use Rattle.pmb_bus.specs.declared.event.Event.TheVariants.{Byte}
use Rattle.pmb_command.specs.Wire.{IsByte}
use Rattle.pmb_packet_state.specs.declared.packet_state.PacketPlace.TheVariants as places
use Rattle.pmb_transaction.specs.Viable.{IsInsideBody}
use Rattle.pmb_packet_state.proofs.Steps.{at_place, moves_to}
use Rattle.pmb_packet_state.proofs.WrittenLegs.{kept_leg, leg_law}
use Rattle.pmb_packet_state.proofs.packet_state.PacketState.send_byte.Goals as goal

pub returns-then-not-goes_on : goal.returns-then-not-goes_on
returns-then-not-goes_on c = λ profile events at stands.
    let bus = stands.bus in
    let here = at_place profile c.args.self.now events places.Leg at stands in
    let leg = kept_leg profile c.args.self.now c.in-Some.leg events c.in-Some.is here in
    let law =
    leg_law profile bus c.args.self.now.kept c.in-Some.leg leg.0 events leg.1 (Byte c.args.byte)
    (λ device parts addr bytes. IsInsideBody device parts bytes × IsByte c.args.byte)
    (λ parts legs addr device bytes. c.bytes_follow_inside_a_body.ensures profile parts legs addr device bytes
    c.args.byte) in
    let inside = c.goes_on.ensures.inside leg.0 leg.1.place in
    (λ turn follows. cc (inside.1 (law.0 follows).0, c.if-not-goes_on.true), refl)

pub returns : goal.returns
returns c = λ profile events at stands.
    let bus = stands.bus in
    let here = at_place profile c.args.self.now events places.Leg at stands in
    let leg = kept_leg profile c.args.self.now c.in-Some.leg events c.in-Some.is here in
    let law =
    leg_law profile bus c.args.self.now.kept c.in-Some.leg leg.0 events leg.1 (Byte c.args.byte)
    (λ device parts addr bytes. IsInsideBody device parts bytes × IsByte c.args.byte)
    (λ parts legs addr device bytes. c.bytes_follow_inside_a_body.ensures profile parts legs addr device bytes
    c.args.byte) in
    let inside = (c.goes_on.ensures.inside leg.0 leg.1.place).0 c.if-not-goes_on.false in
    let small : c.args.byte < 256 = omega arith in
    moves_to profile c.args.self.now (places.LegByte c.args.byte) events (Byte c.args.byte) stands.known stands.bus
    (law.1 (inside, small)) (λ e. cc e)
    (
    record {
      written = c.in-Some.leg;
      is = c.in-Some.is;
      parts = leg.0;
      front = events;
      leg = leg.1;
      small = small;
      inside = inside;
      room = c.goes_on.ensures.room c.if-not-goes_on.false;
      spelled = refl;
    }
    )
