use Rattle.std.proofs.Common.{[], refl}
use Rattle.pmb_packet_state.proofs.Steps.{between_packets}
use Rattle.pmb_packet_state.proofs.packet_state.PacketState.new.Goals as goal

pub returns : goal.returns
returns c =
    between_packets c.args.profile.now _ (λ packet. c.packet_is_not_empty.ensures c.args.profile.now packet.0 []
    packet.1 refl) refl c.accepted_bus.ensures refl
