use Rattle.std.proofs.Common.{List, [], ◌∷◌, ◌++◌, ap, subst, sym, refl, ◌∙◌}
use Rattle.pmb_bus.specs.declared.event.Event.{Event}
use Rattle.pmb_bus.specs.declared.event.Event.TheVariants.{Byte}
use Rattle.pmb_bus.specs.Address.{read_address}
use Rattle.pmb_transaction.specs.Packet.{leg}
use Rattle.pmb_transaction.specs.Capture.{MayFollow}
use Rattle.pmb_transaction.specs.Following.{BeginsAnswer}
use Rattle.pmb_packet_state.specs.declared.packet_state.PacketPlace.TheVariants as places
use Rattle.pmb_packet_state.proofs.Steps.{at_place, byte_is_no_stop, moves_on, other_than_byte}
use Rattle.pmb_packet_state.proofs.AnsweredLegs.{answer_law, answers_on, asked_on, begins_with_same}
use Rattle.pmb_packet_state.proofs.packet_state.PacketState.in_answer.Goals as goal

pub returns-in_default : goal.returns-in_default
returns-in_default c = λ profile events at stands.
    let bus = stands.bus in
    let here = at_place profile c.args.self.now events (places.Answer c.args.source) at stands in (
      λ turn follows.
          let byte = c.bytes_alone_follow_in_an_answer.ensures profile here.front here.addr c.args.self.now.answer.bytes
          c.args.event bus
          (subst (λ (es : List Event). MayFollow profile es c.args.event) here.spelled follows) in
          cc (byte, other_than_byte c.args.event c.in_default.not-Byte),
      refl,
    )

pub returns-then-not-begins : goal.returns-then-not-begins
returns-then-not-begins c = λ profile events at stands.
    let bus = stands.bus in
    let here = at_place profile c.args.self.now events (places.Answer c.args.source) at stands in
    let bytes = c.args.self.now.answer.bytes in
    let law =
    answer_law profile bus c.args.self.now c.args.source here.front here.addr bytes
    (λ (es : List Event). MayFollow profile es (Byte c.in-Byte.byte)) BeginsAnswer (bytes ++ c.in-Byte.byte ∷ [])
    (λ A B same. begins_with_same A B same (bytes ++ c.in-Byte.byte ∷ []))
    (λ addr device body. c.bytes_follow_in_a_reply.ensures profile addr device body bytes c.in-Byte.byte)
    (c.bytes_follow_in_an_alert.ensures profile bytes c.in-Byte.byte bus) here.asked here.answers in (
      λ turn follows.
          let begins = law.0 (subst (λ (es : List Event). MayFollow profile es (Byte c.in-Byte.byte)) here.spelled
          (subst (λ (e : Event). MayFollow profile events e) c.in-Byte.is follows)) in
          cc (c.begins.ensures.1 begins, c.if-not-begins.true),
      refl,
    )

pub returns : goal.returns
returns c = λ profile events at stands.
    let bus = stands.bus in
    let here = at_place profile c.args.self.now events (places.Answer c.args.source) at stands in
    let bytes = c.args.self.now.answer.bytes in
    let law =
    answer_law profile bus c.args.self.now c.args.source here.front here.addr bytes
    (λ (es : List Event). MayFollow profile es (Byte c.in-Byte.byte)) BeginsAnswer (bytes ++ c.in-Byte.byte ∷ [])
    (λ A B same. begins_with_same A B same (bytes ++ c.in-Byte.byte ∷ []))
    (λ addr device body. c.bytes_follow_in_a_reply.ensures profile addr device body bytes c.in-Byte.byte)
    (c.bytes_follow_in_an_alert.ensures profile bytes c.in-Byte.byte bus) here.asked here.answers in
    let begins = c.begins.ensures.0 c.if-not-begins.false in
    let follows : MayFollow profile events c.args.event =
    subst (λ (e : Event). MayFollow profile events e) (sym c.in-Byte.is)
    (subst (λ (es : List Event). MayFollow profile es (Byte c.in-Byte.byte)) (sym here.spelled) (law.1 begins)) in
    let after = record c.args.self.now { place = places.AnswerByte c.args.source; answer = c.take.new.self } in
    moves_on profile events c.args.event after stands.known stands.bus follows
    (byte_is_no_stop c.args.event c.in-Byte.byte c.in-Byte.is)
    (
    record {
      front = here.front;
      addr = here.addr;
      asked = asked_on profile c.args.self.now after c.args.source here.front here.addr refl refl here.asked;
      answers = answers_on c.args.self.now after c.args.source refl (ap (λ a. a.expected) c.take.ensures) here.answers;
      bytes = bytes;
      byte = c.in-Byte.byte;
      last = ap (λ a. a.bytes) c.take.ensures;
      spelled = ap (λ (es : List Event). es ++ c.args.event ∷ []) here.spelled
          ∙ ap (λ (e : Event). (here.front ++ leg (read_address here.addr ∷ bytes)) ++ e ∷ []) c.in-Byte.is;
    }
    )
