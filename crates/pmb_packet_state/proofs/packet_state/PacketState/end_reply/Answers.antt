use Rattle.std.proofs.Common.{ℕ, List, [], ◌∷◌, ◌++◌, ap, subst, sym, refl, ◌∙◌}
use Rattle.pmb_bus.specs.declared.event.Event.{Event}
use Rattle.pmb_bus.specs.declared.event.Event.TheVariants.{Nack, Stop}
use Rattle.pmb_transaction.specs.Transaction.{Call, Read}
use Rattle.pmb_transaction.specs.Packet.{Packet}
use Rattle.pmb_packet_state.specs.declared.packet_state.PacketPlace.TheVariants as places
use Rattle.pmb_packet_state.specs.declared.packet_state.Answerer.TheVariants as sources
use Rattle.pmb_leg.specs.declared.content.Asked.{Asked}
use Rattle.pmb_leg.specs.Leg.{Asks}
use Rattle.pmb_packet_state.proofs.Steps.{at_place, moves_to_end}
use Rattle.pmb_packet_state.proofs.AnsweredLegs.{answer_byte_law, asking_before, reply_ends}
use Rattle.pmb_packet_state.proofs.packet_state.PacketState.end_reply.Goals as goal

pub returns-in_default : goal.returns-in_default
returns-in_default c = λ profile events at stands.
    let bus = stands.bus in
    let here = at_place profile c.args.self.now events (places.AnswerByte sources.Device) at stands in
    let law = answer_byte_law profile bus c.args.self.now sources.Device events Nack (λ A bytes. A bytes)
    (λ A B same. same) (c.replies_end.ensures profile) (c.alerts_end.ensures profile) here in
    (λ turn follows. cc (c.in_default.ensures.some.1 (law.0 follows)), refl)

pub returns-in-None : goal.returns-in-None
returns-in-None c = λ profile events at stands.
    let here = at_place profile c.args.self.now events (places.AnswerByte sources.Device) at stands in
    let asking = asking_before profile c.args.self.now here.front here.addr here.asked c.in-Some-leg.leg
    c.in-Some-leg.is in
    absurd (c.in-None.ensures asking.0 asking.1)

pub returns-in-Some-Read : goal.returns-in-Some-Read
returns-in-Some-Read c = λ profile events at stands.
    let bus = stands.bus in
    let here = at_place profile c.args.self.now events (places.AnswerByte sources.Device) at stands in
    let law = answer_byte_law profile bus c.args.self.now sources.Device events Nack (λ A bytes. A bytes)
    (λ A B same. same) (c.replies_end.ensures profile) (c.alerts_end.ensures profile) here in
    let leg = c.in-Some-leg.leg in
    let asked = subst (λ (a : Asked). Asks leg.device leg.bytes a) c.in-Some-Read.field-0-is c.in-Some-Read.ensures.1 in
    let packet =
    reply_ends profile bus c.args.self.now leg events c.in-Some-leg.is here c.in-Some.reply.bytes.now
    c.in-Some.reply.pec c.in-Some.ensures.says
    (λ (es : List Event). Packet profile (Read
    (record {
      addr = leg.device.address;
      code = c.in-Some-Read.code;
      reply = c.in-Some.reply.bytes.now;
      pec =
          c.in-Some.reply.pec;
    })) ((es ++ Nack ∷ []) ++ Stop ∷ []))
    (λ form bytes byte known body fits mode spelled. c.reads_are_packets.ensures profile leg.device.address leg.device
    leg.bytes form c.in-Some.reply.bytes.now c.in-Some.reply.pec bytes byte c.in-Some-Read.code asked.0 bus known body
    fits mode spelled asked.1) in
    moves_to_end profile events (record c.args.self.now { place = places.End; kept = c.end_read.new.self }) stands.known
    stands.bus refl
    (law.1 (c.in-Some.ensures.some.0 refl))
    (subst (λ t. Packet profile t ((events ++ Nack ∷ []) ++ Stop ∷ []))
    (sym (c.end_read.ensures ∙ ap (λ (a : ℕ). Read
    (record { addr = a; code = c.in-Some-Read.code; reply = c.in-Some.reply.bytes.now; pec = c.in-Some.reply.pec }))
    c.address.ensures)) packet)

pub returns-in-Some-Call : goal.returns-in-Some-Call
returns-in-Some-Call c = λ profile events at stands.
    let bus = stands.bus in
    let here = at_place profile c.args.self.now events (places.AnswerByte sources.Device) at stands in
    let law = answer_byte_law profile bus c.args.self.now sources.Device events Nack (λ A bytes. A bytes)
    (λ A B same. same) (c.replies_end.ensures profile) (c.alerts_end.ensures profile) here in
    let leg = c.in-Some-leg.leg in
    let asked = subst (λ (a : Asked). Asks leg.device leg.bytes a) c.in-Some-Call.field-0-is c.in-Some-Call.ensures.1 in
    let packet =
    reply_ends profile bus c.args.self.now leg events c.in-Some-leg.is here c.in-Some.reply.bytes.now
    c.in-Some.reply.pec c.in-Some.ensures.says
    (λ (es : List Event). Packet profile (Call
    (record {
      addr = leg.device.address;
      code = c.in-Some-Call.code;
      bytes = c.in-Some-Call.bytes.now;
      reply =
          c.in-Some.reply.bytes.now;
      pec = c.in-Some.reply.pec;
    })) ((es ++ Nack ∷ []) ++ Stop ∷ []))
    (λ form bytes byte known body fits mode spelled. c.calls_are_packets.ensures profile leg.device.address leg.device
    leg.bytes form c.in-Some.reply.bytes.now c.in-Some.reply.pec bytes byte c.in-Some-Call.code
    c.in-Some-Call.bytes.now asked.0 bus known body fits mode spelled asked.1) in
    moves_to_end profile events (record c.args.self.now { place = places.End; kept = c.end_call.new.self }) stands.known
    stands.bus refl
    (law.1 (c.in-Some.ensures.some.0 refl))
    (subst (λ t. Packet profile t ((events ++ Nack ∷ []) ++ Stop ∷ []))
    (sym (c.end_call.ensures ∙ ap (λ (a : ℕ). Call
    (record {
      addr = a;
      code = c.in-Some-Call.code;
      bytes = c.in-Some-Call.bytes.now;
      reply =
          c.in-Some.reply.bytes.now;
      pec = c.in-Some.reply.pec;
    })) c.address-in-Some-Call.ensures)) packet)
