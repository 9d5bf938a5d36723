use Rattle.std.proofs.Common.{true, List, [], ◌∷◌, ◌++◌, length, ap, subst, sym, arith, refl, ◌∙◌}
use Rattle.pmb_bus.specs.declared.event.Event.{Event}
use Rattle.pmb_bus.specs.declared.event.Event.TheVariants.{Nack, Stop}
use Rattle.pmb_transaction.specs.Transaction.{PartData}
use Rattle.pmb_transaction.specs.Packet.{Packet}
use Rattle.pmb_transaction.specs.Capture.{MayFollow}
use Rattle.pmb_packet_state.specs.declared.packet_state.PacketPlace.TheVariants as places
use Rattle.pmb_packet_state.specs.declared.packet_state.Answerer.TheVariants as sources
use Rattle.pmb_transaction.specs.Transaction.{Refused}
use Rattle.pmb_packet_state.proofs.Steps.{at_place, moves_to_end}
use Rattle.pmb_packet_state.proofs.AnsweredLegs.{asked_with, read_refused_said, same_kept_leg}
use Rattle.pmb_packet_state.proofs.packet_state.PacketState.refuse_read.Goals as goal

pub returns-then-part_count-gt0 : goal.returns-then-part_count-gt0
returns-then-part_count-gt0 c = λ profile events at stands.
    let here = at_place profile c.args.self.now events (places.ReadAddress sources.Device) at stands in
    let count = ap (λ (ps : List PartData). length ps) here.asked.alone in
    absurd (omega (arith, count, c.part_count.ensures, c.if-part_count-gt0.true))

pub returns : goal.returns
returns c = λ profile events at stands.
    let bus = stands.bus in
    let here = at_place profile c.args.self.now events (places.ReadAddress sources.Device) at stands in
    let same = same_kept_leg c.args.self.now here.asked.written c.in-Some.leg here.asked.is c.in-Some.is in
    let law = c.reads_may_be_refused.ensures profile here.asked.written.device.address here.asked.written.device
    here.asked.written.bytes bus here.asked.known here.asked.request in
    let packet = c.refused_reads_are_packets.ensures profile here.asked.written.device.address here.asked.written.device
    here.asked.written.bytes bus here.asked.known here.asked.request in
    let is = asked_with profile c.args.self.now events here in
    moves_to_end profile events (record c.args.self.now { place = places.End; kept = c.end_refused.new.self })
    stands.known stands.bus refl
    (subst (λ (es : List Event). MayFollow profile es Nack) (sym is) law)
    (subst (λ t. Packet profile t ((events ++ Nack ∷ []) ++ Stop ∷ []))
    (sym (c.end_refused.ensures ∙ read_refused_said c.args.self.now.kept.parts c.address.result c.bytes.result.now
    c.in-Some.leg here.asked.written here.asked.alone c.address.ensures c.bytes.ensures.value same))
    (subst (λ (es : List Event). Packet profile
    (Refused (record {
      parts = [];
      addr = here.asked.written.device.address;
      sent =
          here.asked.written.bytes;
      at_read = true;
    })) ((es ++ Nack ∷ []) ++ Stop ∷ [])) (sym is) packet))
