use Rattle.std.proofs.Common.{ℕ, List, length, ap, sym, arith, ◌∙◌}
use Rattle.pmb_leg.specs.Leg.{Written}
use Rattle.pmb_packet_state.specs.declared.packet_state.PacketPlace.TheVariants as places
use Rattle.pmb_packet_state.proofs.Steps.{at_place}
use Rattle.pmb_packet_state.proofs.Reasons.{code_is_unknown, pec_is_wrong}
use Rattle.pmb_packet_state.proofs.WrittenLegs.{same_leg}
use Rattle.pmb_packet_state.proofs.packet_state.PacketState.taken_reason.Goals as goal

pub returns-then-bytes-gt0 : goal.returns-then-bytes-gt0
returns-then-bytes-gt0 c = λ profile events at stands.
    let here = at_place profile c.args.self.now events (places.LegByte c.args.byte) at stands in
    let same = same_leg c.args.self.now here.written c.in-Some.leg here.is c.in-Some.is in
    let count = ap (λ (bs : List ℕ). length bs) (c.bytes.ensures.value ∙ ap (λ (w : Written). w.bytes) (sym same)) in
    pec_is_wrong profile c.args.self.now c.args.byte events here (omega (arith, count, c.if-bytes-gt0.true))

pub returns-else-bytes-gt0 : goal.returns-else-bytes-gt0
returns-else-bytes-gt0 c = λ profile events at stands.
    let here = at_place profile c.args.self.now events (places.LegByte c.args.byte) at stands in
    let same = same_leg c.args.self.now here.written c.in-Some.leg here.is c.in-Some.is in
    let count = ap (λ (bs : List ℕ). length bs) (c.bytes.ensures.value ∙ ap (λ (w : Written). w.bytes) (sym same)) in
    code_is_unknown profile c.args.self.now c.args.byte events here (omega (arith, count, c.if-bytes-gt0.false))
