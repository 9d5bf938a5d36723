use Rattle.std.proofs.Common.{subst, sym}
use Rattle.pmb_bus.specs.declared.event.Event.{Event}
use Rattle.pmb_transaction.specs.Reason.{IsReason}
use Rattle.pmb_packet_state.proofs.packet_state.PacketState.reason.Goals as goal

pub returns-in-Byte : goal.returns-in-Byte
returns-in-Byte c = λ profile events stands.
    subst (λ (e : Event). IsReason profile events e c.reason_of_byte.result) (sym c.in-Byte.is)
    (c.reason_of_byte.ensures profile events stands)
