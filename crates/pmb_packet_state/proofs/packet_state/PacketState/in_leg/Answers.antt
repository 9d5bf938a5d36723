use Rattle.std.proofs.Common.{◌≡◌, true, subst, refl}
use Rattle.pmb_transaction.specs.Turns.{is_no_answer}
use Rattle.pmb_packet_state.specs.declared.packet_state.PacketPlace.{PacketPlace}
use Rattle.pmb_packet_state.specs.machine.PacketState.{has_turn}
use Rattle.pmb_packet_state.proofs.Steps.{answer_here}
use Rattle.pmb_packet_state.proofs.packet_state.PacketState.in_leg.Goals as goal

pub returns-in-Ack : goal.returns-in-Ack
returns-in-Ack c = λ profile events at stands. (
  λ turn follows.
      let here : is_no_answer c.args.event ≡ true =
      subst (λ (p : PacketPlace). has_turn p c.args.event ≡ true) at turn in
      cc (here, answer_here c.args.event c.in-Ack.is),
  refl,
)
