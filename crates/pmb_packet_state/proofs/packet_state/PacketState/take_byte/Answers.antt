use Rattle.std.proofs.Common.{Some, [], ◌∷◌, ◌++◌, ap, sym, refl, ◌∙◌}
use Rattle.pmb_bus.specs.declared.event.Event.TheVariants.{Byte, Ack}
use Rattle.pmb_packet_state.specs.declared.packet_state.PacketPlace.TheVariants as places
use Rattle.pmb_transaction.specs.Viable.{BeginsBody}
use Rattle.pmb_packet_state.proofs.Steps.{at_place, moves_on}
use Rattle.pmb_packet_state.proofs.WrittenLegs.{kept_byte, leg_goes_on, tail_law}
use Rattle.pmb_packet_state.proofs.packet_state.PacketState.take_byte.Goals as goal

pub returns-then-not-take : goal.returns-then-not-take
returns-then-not-take c = λ profile events at stands.
    let bus = stands.bus in
    let here = at_place profile c.args.self.now events (places.LegByte c.args.byte) at stands in
    let leg = kept_byte profile c.args.self.now c.in-Some.leg c.args.byte events c.in-Some.is here in
    let law =
    tail_law profile bus c.args.self.now.kept c.in-Some.leg leg.0 leg.1 leg.2 (Byte c.args.byte ∷ []) events Ack
    (λ device parts addr bytes. BeginsBody device parts (bytes ++ c.args.byte ∷ []))
    (λ parts legs addr device bytes. c.bytes_taken_begin_a_body.ensures profile parts legs addr device bytes
    c.args.byte) leg.5 in
    let begins = c.take.ensures.begins leg.0 leg.2.place in
    let same = c.take.ensures.refused c.if-not-take.true in (
      λ turn follows. cc (begins.1 (law.0 follows), c.if-not-take.true),
      ap (λ l. record c.args.self.now { leg = l }) (ap (λ w. Some w) same ∙ sym c.in-Some.is),
    )

pub returns : goal.returns
returns c = λ profile events at stands.
    let bus = stands.bus in
    let here = at_place profile c.args.self.now events (places.LegByte c.args.byte) at stands in
    let leg = kept_byte profile c.args.self.now c.in-Some.leg c.args.byte events c.in-Some.is here in
    let law =
    tail_law profile bus c.args.self.now.kept c.in-Some.leg leg.0 leg.1 leg.2 (Byte c.args.byte ∷ []) events Ack
    (λ device parts addr bytes. BeginsBody device parts (bytes ++ c.args.byte ∷ []))
    (λ parts legs addr device bytes. c.bytes_taken_begin_a_body.ensures profile parts legs addr device bytes
    c.args.byte) leg.5 in
    let begins = (c.take.ensures.begins leg.0 leg.2.place).0 c.if-not-take.false in
    moves_on profile events Ack (record c.args.self.now { place = places.Leg; leg = Some c.take.new.self }) stands.known
    stands.bus (law.1 begins) (λ e. cc e)
    (
    record {
      written = c.take.new.self;
      is = refl;
      parts = leg.0;
      leg = leg_goes_on profile c.args.self.now.kept c.in-Some.leg c.take.new.self leg.0 c.args.byte leg.1 events leg.2
          (c.take.ensures.taken c.if-not-take.false) leg.5;
    }
    )
