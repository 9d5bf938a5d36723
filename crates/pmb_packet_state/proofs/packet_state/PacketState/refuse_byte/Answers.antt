use Rattle.std.proofs.Common.{◌<◌, ℕ, List, [], ◌∷◌, ◌++◌, length, ap, subst, sym, arith, refl, ◌∙◌}
use Rattle.pmb_bus.specs.declared.event.Event.TheVariants.{Byte, Nack, Stop}
use Rattle.pmb_command.specs.Wire.{IsByte}
use Rattle.pmb_transaction.specs.Transaction.{PartData}
use Rattle.pmb_transaction.specs.Packet.{Packet}
use Rattle.pmb_packet_state.specs.declared.packet_state.PacketPlace.TheVariants as places
use Rattle.pmb_transaction.specs.Viable.{IsInsideBody}
use Rattle.pmb_packet_state.proofs.Steps.{at_place, moves_to_end}
use Rattle.pmb_packet_state.proofs.WrittenLegs.{kept_byte, refused_byte_ends, refused_said, tail_law}
use Rattle.pmb_packet_state.proofs.packet_state.PacketState.refuse_byte.Goals as goal

pub returns-then-part_count-gt-MOST_BEFORE : goal.returns-then-part_count-gt-MOST_BEFORE
returns-then-part_count-gt-MOST_BEFORE c = λ profile events at stands.
    let here = at_place profile c.args.self.now events (places.LegByte c.args.byte) at stands in
    let count = ap (λ (ps : List PartData). length ps) here.leg.has.same in
    absurd (omega (arith, count, here.leg.has.few, c.part_count.ensures, c.if-part_count-gt-MOST_BEFORE.true))

pub returns-then-bytes-gt257 : goal.returns-then-bytes-gt257
returns-then-bytes-gt257 c = λ profile events at stands.
    let here = at_place profile c.args.self.now events (places.LegByte c.args.byte) at stands in
    let leg = kept_byte profile c.args.self.now c.in-Some.leg c.args.byte events c.in-Some.is here in
    let count = ap (λ (bs : List ℕ). length bs) c.bytes.ensures.value in
    absurd (omega (arith, count, leg.4, c.if-bytes-gt257.true))

pub returns : goal.returns
returns c = λ profile events at stands.
    let bus = stands.bus in
    let here = at_place profile c.args.self.now events (places.LegByte c.args.byte) at stands in
    let leg = kept_byte profile c.args.self.now c.in-Some.leg c.args.byte events c.in-Some.is here in
    let law =
    tail_law profile bus c.args.self.now.kept c.in-Some.leg leg.0 leg.1 leg.2 (Byte c.args.byte ∷ []) events Nack
    (λ device parts addr bytes. IsInsideBody device parts bytes × IsByte c.args.byte)
    (λ parts legs addr device bytes. c.bytes_may_be_refused.ensures profile parts legs addr device bytes c.args.byte)
    leg.5 in
    let small : c.args.byte < 256 = omega arith in
    let after = record c.args.self.now { place = places.End; kept = c.end_refused.new.self } in
    moves_to_end profile events after stands.known stands.bus refl
    (law.1 (leg.3, small))
    (subst (λ t. Packet profile t ((events ++ Nack ∷ []) ++ Stop ∷ []))
    (sym (c.end_refused.ensures ∙ refused_said c.args.self.now.kept.parts c.address.result c.in-Some.leg.device.address
    c.bytes-2.result.now c.in-Some.leg.bytes (c.args.byte ∷ []) c.address.ensures c.bytes-2.ensures.value))
    (refused_byte_ends profile bus c.args.self.now.kept c.in-Some.leg leg.0 leg.1 leg.2 c.args.byte events
    (c.refused_bytes_are_packets.ensures profile) leg.3 small leg.5))
