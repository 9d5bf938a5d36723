use Rattle.std.proofs.Common.{ℕ, List, [], ◌∷◌, ◌++◌, ap, sym, refl, ◌∙◌}
use Rattle.pmb_bus.specs.declared.event.Event.{Event}
use Rattle.pmb_bus.specs.declared.event.Event.TheVariants.{Ack}
use Rattle.pmb_bus.specs.Address.{read_address}
use Rattle.pmb_transaction.specs.Packet.{leg}
use Rattle.pmb_transaction.specs.Following.{IsInsideAnswer}
use Rattle.pmb_packet_state.specs.declared.packet_state.PacketPlace.TheVariants as places
use Rattle.pmb_packet_state.proofs.Steps.{at_place, leg_grows, moves_on}
use Rattle.pmb_packet_state.proofs.AnsweredLegs.{answer_byte_law, answers_on, asked_on, inside_same}
use Rattle.pmb_packet_state.proofs.packet_state.PacketState.answer_on.Goals as goal

pub returns-then-not-goes_on : goal.returns-then-not-goes_on
returns-then-not-goes_on c = λ profile events at stands.
    let bus = stands.bus in
    let here = at_place profile c.args.self.now events (places.AnswerByte c.args.source) at stands in
    let law = answer_byte_law profile bus c.args.self.now c.args.source events Ack IsInsideAnswer inside_same
    (c.replies_go_on.ensures profile) (c.alerts_go_on.ensures profile) here in
    (λ turn follows. cc (c.goes_on.ensures.1 (law.0 follows), c.if-not-goes_on.true), refl)

pub returns : goal.returns
returns c = λ profile events at stands.
    let bus = stands.bus in
    let here = at_place profile c.args.self.now events (places.AnswerByte c.args.source) at stands in
    let law = answer_byte_law profile bus c.args.self.now c.args.source events Ack IsInsideAnswer inside_same
    (c.replies_go_on.ensures profile) (c.alerts_go_on.ensures profile) here in
    let after = record c.args.self.now { place = places.Answer c.args.source } in
    moves_on profile events Ack after stands.known stands.bus (law.1 (c.goes_on.ensures.0 c.if-not-goes_on.false))
    (λ e. cc e)
    (
    record {
      front = here.front;
      addr = here.addr;
      asked = asked_on profile c.args.self.now after c.args.source here.front here.addr refl refl here.asked;
      answers = answers_on c.args.self.now after c.args.source refl refl here.answers;
      spelled = ap (λ (es : List Event). es ++ Ack ∷ []) here.spelled
          ∙ leg_grows here.front (read_address here.addr ∷ here.bytes) here.byte
          ∙ ap (λ (bs : List ℕ). here.front ++ leg (read_address here.addr ∷ bs)) (sym here.last);
    }
    )
