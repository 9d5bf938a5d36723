use Rattle.std.proofs.Common.{inl, inr, refl, sym, ◌∙◌}
use Rattle.pmb_packet_state.proofs.Reasons.{ack_alone, ack_bits}
use Rattle.pmb_packet_state.proofs.packet_state.PacketState.reason_of_nack.Goals as goal

pub returns-then-bits-eq-ACK_ALONE : goal.returns-then-bits-eq-ACK_ALONE
returns-then-bits-eq-ACK_ALONE c = λ profile events stands.
    let alone = ack_alone profile events c.expected-kinds.result (c.expected-kinds.ensures profile events stands)
    (sym c.bits.ensures ∙ c.if-bits-eq-ACK_ALONE.true) in
    inl (alone, c.refused_events_have_a_reason.ensures.nack profile events stands.bus alone)

pub returns-else-bits-eq-ACK_ALONE : goal.returns-else-bits-eq-ACK_ALONE
returns-else-bits-eq-ACK_ALONE c = λ profile events stands.
    inr (
      λ alone. c.if-bits-eq-ACK_ALONE.false (c.bits.ensures ∙ ack_bits profile events c.expected-kinds.result
          (c.expected-kinds.ensures profile events stands) c.kinds_are_told_by_events.ensures alone),
      refl,
    )
