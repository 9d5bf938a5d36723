use Rattle.pmb_bus.specs.declared.event.Event.TheVariants.{Ack, Nack}
use Rattle.pmb_transaction.specs.Following.{IsInsideAnswer}
use Rattle.pmb_packet_state.specs.declared.packet_state.PacketPlace.TheVariants as places
use Rattle.pmb_packet_state.proofs.Steps.{at_place}
use Rattle.pmb_packet_state.proofs.Expected.{answers_may_follow}
use Rattle.pmb_packet_state.proofs.AnsweredLegs.{answer_byte_ends, answer_byte_law, inside_same}
use Rattle.pmb_packet_state.proofs.packet_state.PacketState.expected_behind_answer_byte.Goals as goal

pub returns : goal.returns
returns c = λ profile events at stands.
    let bus = stands.bus in
    let here = at_place profile c.args.self.now events (places.AnswerByte c.args.source) at stands in
    let u = c.args.self.now in
    let taken = answer_byte_law profile bus u c.args.source events Ack IsInsideAnswer inside_same
    (c.replies_go_on.ensures profile) (c.alerts_go_on.ensures profile) here in
    let ends = answer_byte_law profile bus u c.args.source events Nack (λ A bytes. A bytes) (λ A B same. same)
    (c.replies_end.ensures profile) (c.alerts_end.ensures profile) here in
    answers_may_follow c.events_take_turns.ensures profile events here.byte
    (answer_byte_ends profile c.args.self.now c.args.source events here) c.answers.result c.goes_on.result
    c.is_whole.result
    (record {
      known = c.answers.ensures.known;
      ack_is = c.answers.ensures.ack;
      nack_is =
          c.answers.ensures.nack;
      no_start = c.answers.ensures.start;
      no_byte = c.answers.ensures.byte;
      no_stop =
          c.answers.ensures.stop;
    })
    (λ yes. taken.1 (c.goes_on.ensures.0 yes), λ follows. c.goes_on.ensures.1 (taken.0 follows))
    (λ yes. ends.1 (c.is_whole.ensures.0 yes), λ follows. c.is_whole.ensures.1 (ends.0 follows))
