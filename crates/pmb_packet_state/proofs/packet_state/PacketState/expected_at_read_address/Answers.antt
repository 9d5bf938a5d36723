use Rattle.std.proofs.Common.{true, refl}
use Rattle.pmb_bus.specs.declared.event.Event.TheVariants.{Ack, Nack}
use Rattle.pmb_bus.specs.Address.{read_address}
use Rattle.pmb_packet_state.specs.declared.packet_state.PacketPlace.TheVariants as places
use Rattle.pmb_packet_state.proofs.Steps.{at_place}
use Rattle.pmb_packet_state.proofs.Expected.{answers_may_follow}
use Rattle.pmb_packet_state.proofs.AnsweredLegs.{read_address_ends}
use Rattle.pmb_packet_state.proofs.Reasons.{read_may_be_answered}
use Rattle.pmb_packet_state.proofs.packet_state.PacketState.expected_at_read_address.Goals as goal

pub returns : goal.returns
returns c = λ profile events at stands.
    let bus = stands.bus in
    let here = at_place profile c.args.self.now events (places.ReadAddress c.args.source) at stands in
    let taken = read_may_be_answered Ack profile bus c.args.self.now c.args.source events
    (c.reads_may_be_taken.ensures profile) (c.alerts_may_be_taken.ensures profile bus) here in
    let refused = read_may_be_answered Nack profile bus c.args.self.now c.args.source events
    (c.reads_may_be_refused.ensures profile) (c.alerts_may_be_refused.ensures profile) here in
    answers_may_follow c.events_take_turns.ensures profile events (read_address here.addr)
    (read_address_ends profile c.args.self.now c.args.source events here) c.answers.result true true
    (record {
      known = c.answers.ensures.known;
      ack_is = c.answers.ensures.ack;
      nack_is =
          c.answers.ensures.nack;
      no_start = c.answers.ensures.start;
      no_byte = c.answers.ensures.byte;
      no_stop =
          c.answers.ensures.stop;
    })
    (λ yes. taken, λ follows. refl) (λ yes. refused, λ follows. refl)
