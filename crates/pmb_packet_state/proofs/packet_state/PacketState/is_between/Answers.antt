use Rattle.pmb_packet_state.proofs.Ends.{some_events}
use Rattle.pmb_packet_state.proofs.packet_state.PacketState.is_between.Goals as goal

pub returns-in_default : goal.returns-in_default
returns-in_default c = λ profile events stands. (
  λ differ. absurd (cc differ),
  λ none. absurd
      (some_events profile c.args.self.now c.args.self.now.place events c.in_default.not-Between stands.place none),
)
