use Rattle.std.proofs.Common.{inl, inr, refl, sym, ◌∙◌}
use Rattle.pmb_packet_state.proofs.Reasons.{nack_alone, nack_bits}
use Rattle.pmb_packet_state.proofs.packet_state.PacketState.reason_of_ack.Goals as goal

pub returns-then-bits-eq-NACK_ALONE : goal.returns-then-bits-eq-NACK_ALONE
returns-then-bits-eq-NACK_ALONE c = λ profile events stands.
    let alone = nack_alone profile events c.expected-kinds.result (c.expected-kinds.ensures profile events stands)
    (sym c.bits.ensures ∙ c.if-bits-eq-NACK_ALONE.true) in
    inl (alone, c.ack_reason.ensures profile events stands alone)

pub returns-else-bits-eq-NACK_ALONE : goal.returns-else-bits-eq-NACK_ALONE
returns-else-bits-eq-NACK_ALONE c = λ profile events stands.
    inr (
      λ alone. c.if-bits-eq-NACK_ALONE.false (c.bits.ensures ∙ nack_bits profile events c.expected-kinds.result
          (c.expected-kinds.ensures profile events stands) c.kinds_are_told_by_events.ensures alone),
      refl,
    )
