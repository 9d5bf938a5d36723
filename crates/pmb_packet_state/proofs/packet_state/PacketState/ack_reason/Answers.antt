use Rattle.pmb_transaction.specs.Reason.{too_long, unknown_device}
use Rattle.pmb_packet_state.specs.declared.packet_state.PacketPlace.TheVariants as places
use Rattle.pmb_packet_state.proofs.Reasons.{ack_elsewhere, plain_here}
use Rattle.pmb_packet_state.proofs.Steps.{at_place}
use Rattle.pmb_packet_state.proofs.packet_state.PacketState.ack_reason.Goals as goal

pub returns-in-Address : goal.returns-in-Address
returns-in-Address c = λ profile events stands alone.
    let here = at_place profile c.args.self.now events (places.Address _) c.in-Address.is stands in
    unknown_device here.legs _ here.spelled

pub returns-in-AnswerByte : goal.returns-in-AnswerByte
returns-in-AnswerByte c = λ profile events stands alone.
    let here = at_place profile c.args.self.now events (places.AnswerByte _) c.in-AnswerByte.is stands in
    too_long here.front here.addr here.bytes here.byte here.spelled

pub returns-in-Between : goal.returns-in-Between
returns-in-Between c = λ profile events stands alone.
    let bus = stands.bus in
    absurd
    (
    ack_elsewhere c.events_take_turns.ensures profile
    (λ event. (c.packets_begin_with_start.ensures profile event bus).0) bus (c.reads_may_be_taken.ensures profile)
    (c.alerts_may_be_taken.ensures profile bus) c.args.self.now c.args.self.now.place events
    (plain_here c.args.self.now.place c.in-Between.is) stands.place alone
    )
