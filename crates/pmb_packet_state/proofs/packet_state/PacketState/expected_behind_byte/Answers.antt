use Rattle.std.proofs.Common.{◌++◌, ◌∷◌, [], true, refl}
use Rattle.pmb_bus.specs.declared.event.Event.TheVariants.{Ack, Byte, Nack}
use Rattle.pmb_command.specs.Wire.{IsByte}
use Rattle.pmb_transaction.specs.Viable.{BeginsBody, IsInsideBody}
use Rattle.pmb_packet_state.specs.declared.packet_state.PacketPlace.TheVariants as places
use Rattle.pmb_packet_state.proofs.Expected.{answers_may_follow}
use Rattle.pmb_packet_state.proofs.Steps.{at_place}
use Rattle.pmb_packet_state.proofs.WrittenLegs.{byte_ends, kept_byte, tail_law}
use Rattle.pmb_packet_state.proofs.packet_state.PacketState.expected_behind_byte.Goals as goal

pub returns : goal.returns
returns c profile events at stands =
    let bus = stands.bus in
    let here = at_place profile c.args.self.now events (places.LegByte c.args.byte) at stands in
    let leg = kept_byte profile c.args.self.now c.in-Some.leg c.args.byte events c.in-Some.is here in
    let taken =
    tail_law profile bus c.args.self.now.kept c.in-Some.leg leg.0 leg.1 leg.2 (Byte c.args.byte ∷ []) events Ack
    (λ device parts addr bytes. BeginsBody device parts (bytes ++ c.args.byte ∷ []))
    (λ parts legs addr device bytes. c.bytes_taken_begin_a_body.ensures profile parts legs addr device bytes
    c.args.byte) leg.5 in
    let refused =
    tail_law profile bus c.args.self.now.kept c.in-Some.leg leg.0 leg.1 leg.2 (Byte c.args.byte ∷ []) events Nack
    (λ device parts addr bytes. IsInsideBody device parts bytes × IsByte c.args.byte)
    (λ parts legs addr device bytes. c.bytes_may_be_refused.ensures profile parts legs addr device bytes c.args.byte)
    leg.5 in
    let begins = c.begins.ensures leg.0 leg.2.place in
    answers_may_follow c.events_take_turns.ensures profile events c.args.byte
    (byte_ends profile c.args.self.now c.args.byte events here) c.answers.result c.begins.result true
    (record {
      known = c.answers.ensures.known;
      ack_is = c.answers.ensures.ack;
      nack_is =
          c.answers.ensures.nack;
      no_start = c.answers.ensures.start;
      no_byte = c.answers.ensures.byte;
      no_stop =
          c.answers.ensures.stop;
    })
    (λ yes. taken.1 (begins.0 yes), λ follows. begins.1 (taken.0 follows))
    (λ _. refused.1 (leg.3, here.small), λ _. refl)
