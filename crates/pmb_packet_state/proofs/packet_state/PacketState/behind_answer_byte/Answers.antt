use Rattle.std.proofs.Common.{◌≡◌, true, subst, refl}
use Rattle.pmb_transaction.specs.Turns.{is_answer}
use Rattle.pmb_packet_state.specs.declared.packet_state.PacketPlace.{PacketPlace}
use Rattle.pmb_packet_state.specs.machine.PacketState.{has_turn}
use Rattle.pmb_packet_state.proofs.Steps.{no_answer_here}
use Rattle.pmb_packet_state.proofs.packet_state.PacketState.behind_answer_byte.Goals as goal

pub returns-in-Start : goal.returns-in-Start
returns-in-Start c = λ profile events at stands. (
  λ turn follows.
      let here : is_answer c.args.event ≡ true = subst (λ (p : PacketPlace). has_turn p c.args.event ≡ true) at turn in
      cc (here, no_answer_here c.args.event c.in-Start.is),
  refl,
)
