use Rattle.std.proofs.Common.{◌≡◌, ℕ, Some, List, [], ◌∷◌, ◌++◌, ap, subst, sym, refl, ◌∙◌}
use Rattle.pmb_bus.specs.declared.event.Event.{Event}
use Rattle.pmb_bus.specs.declared.event.Event.TheVariants.{Nack, Stop}
use Rattle.pmb_transaction.specs.Transaction.{Alert}
use Rattle.pmb_transaction.specs.Packet.{Packet}
use Rattle.pmb_packet_state.specs.declared.packet_state.PacketPlace.TheVariants as places
use Rattle.pmb_packet_state.specs.declared.packet_state.Answerer.TheVariants as sources
use Rattle.std.specs.Prelude.{slice_get}
use Rattle.pmb_packet_state.proofs.Steps.{at_place, moves_to_end}
use Rattle.pmb_packet_state.proofs.AnsweredLegs.{alert_ends, alert_reply, answer_byte_law}
use Rattle.pmb_packet_state.proofs.packet_state.PacketState.end_alert.Goals as goal

pub returns-in_default : goal.returns-in_default
returns-in_default c = λ profile events at stands.
    let bus = stands.bus in
    let here = at_place profile c.args.self.now events (places.AnswerByte sources.Alert) at stands in
    let law = answer_byte_law profile bus c.args.self.now sources.Alert events Nack (λ A bytes. A bytes)
    (λ A B same. same) (c.replies_end.ensures profile) (c.alerts_end.ensures profile) here in
    (λ turn follows. cc (c.in_default.ensures.some.1 (law.0 follows)), refl)

pub returns : goal.returns
returns c = λ profile events at stands.
    let bus = stands.bus in
    let here = at_place profile c.args.self.now events (places.AnswerByte sources.Alert) at stands in
    let law = answer_byte_law profile bus c.args.self.now sources.Alert events Nack (λ A bytes. A bytes)
    (λ A B same. same) (c.replies_end.ensures profile) (c.alerts_end.ensures profile) here in
    let reply = alert_reply c.args.self.now c.in-Some.reply.bytes.now c.in-Some.reply.pec here.answers
    c.in-Some.ensures.says in
    let both : Some c.in-Some-first.byte.now ≡ Some reply.0 = c.in-Some-first.ensures.value
    ∙ ap (λ (bs : List ℕ). slice_get bs 0) reply.1 in
    let first : c.in-Some-first.byte.now ≡ reply.0 = cc both in
    let packet =
    alert_ends profile c.args.self.now events here c.in-Some.reply.bytes.now c.in-Some.reply.pec c.in-Some.ensures.says
    (λ (answer : ℕ) (es : List Event). Packet profile (Alert (record { byte = answer; pec = c.in-Some.reply.pec }))
    ((es ++ Nack ∷ []) ++ Stop ∷ []))
    (λ answer bytes byte small spelled. c.alerts_are_packets.ensures profile answer c.in-Some.reply.pec bytes byte small
    spelled) reply.0 reply.1 in
    moves_to_end profile events (record c.args.self.now { place = places.End; kept = c.end_alert.new.self })
    stands.known stands.bus refl
    (law.1 (c.in-Some.ensures.some.0 refl))
    (subst (λ t. Packet profile t ((events ++ Nack ∷ []) ++ Stop ∷ []))
    (sym (c.end_alert.ensures ∙ ap (λ (b : ℕ). Alert (record { byte = b; pec = c.in-Some.reply.pec })) first)) packet)
