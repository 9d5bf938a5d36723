use Rattle.std.proofs.Common.{refl}
use Rattle.pmb_packet_state.specs.declared.packet_state.PacketPlace.TheVariants as places
use Rattle.pmb_packet_state.proofs.Steps.{restarts}
use Rattle.pmb_packet_state.proofs.packet_state.PacketState.restart.Goals as goal

pub returns : goal.returns
returns c = λ profile events stands. restarts profile c.args.self.now
    (record c.args.self.now { place = places.Between }) events stands stands.known refl
