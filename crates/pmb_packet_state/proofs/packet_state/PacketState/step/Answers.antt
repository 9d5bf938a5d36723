use Rattle.std.proofs.Common.{refl}
use Rattle.pmb_bus.specs.declared.event.Event.TheVariants.{Byte, Ack}
use Rattle.pmb_packet_state.proofs.Turns.{given_moves}
use Rattle.pmb_packet_state.proofs.packet_state.PacketState.step.Goals as goal

pub returns-in-Leg : goal.returns-in-Leg
returns-in-Leg c = λ profile events stands.
    given_moves c.events_take_turns.ensures profile c.packets_go_on.ensures c.args.self.now events c.args.event
    (Byte c.in-Byte.byte) c.send_byte.result c.send_byte.new.self c.in-Byte.is stands
    (c.send_byte.ensures profile events c.in-Leg.is stands)

pub returns-in-Answer : goal.returns-in-Answer
returns-in-Answer c = λ profile events stands.
    given_moves c.events_take_turns.ensures profile c.packets_go_on.ensures c.args.self.now events c.args.event
    (Byte c.in-Byte.byte) c.in_answer.result c.in_answer.new.self c.in-Byte.is stands
    (c.in_answer.ensures profile events c.in-Answer.is stands)

pub returns-in_default : goal.returns-in_default
returns-in_default c = λ profile events stands.
    given_moves c.events_take_turns.ensures profile c.packets_go_on.ensures c.args.self.now events c.args.event
    (Byte c.in-Byte.byte) c.step_by_place.result c.step_by_place.new.self c.in-Byte.is stands
    (c.step_by_place.ensures profile events stands)

pub returns-in-LegByte : goal.returns-in-LegByte
returns-in-LegByte c = λ profile events stands.
    given_moves c.events_take_turns.ensures profile c.packets_go_on.ensures c.args.self.now events c.args.event Ack
    c.take_byte.result c.take_byte.new.self c.in-Ack.is stands
    (c.take_byte.ensures profile events c.in-LegByte.is stands)

pub returns-in-AnswerByte : goal.returns-in-AnswerByte
returns-in-AnswerByte c = λ profile events stands.
    given_moves c.events_take_turns.ensures profile c.packets_go_on.ensures c.args.self.now events c.args.event Ack
    c.answer_on.result c.answer_on.new.self c.in-Ack.is stands
    (c.answer_on.ensures profile events c.in-AnswerByte.is stands)

pub returns-in_default-place : goal.returns-in_default-place
returns-in_default-place c = λ profile events stands.
    given_moves c.events_take_turns.ensures profile c.packets_go_on.ensures c.args.self.now events c.args.event
    c.args.event c.step_by_place-in_default-place.result c.step_by_place-in_default-place.new.self refl stands
    (c.step_by_place-in_default-place.ensures profile events stands)

pub returns-in-Start : goal.returns-in-Start
returns-in-Start c = λ profile events stands.
    given_moves c.events_take_turns.ensures profile c.packets_go_on.ensures c.args.self.now events c.args.event
    c.args.event c.step_by_place-in-Start.result c.step_by_place-in-Start.new.self refl stands
    (c.step_by_place-in-Start.ensures profile events stands)
