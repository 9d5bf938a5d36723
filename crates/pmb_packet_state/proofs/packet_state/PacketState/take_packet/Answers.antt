use Rattle.std.proofs.Common.{[]}
use Rattle.pmb_packet_state.proofs.Ends.{at_none}
use Rattle.pmb_packet_state.proofs.Steps.{restarts}
use Rattle.pmb_packet_state.proofs.packet_state.PacketState.take_packet.Goals as goal

pub returns-clause-stands : goal.returns-clause-stands
returns-clause-stands c = λ profile stands.
    restarts profile c.args.self.now (record c.args.self.now { kept = c.take_last.new.self }) [] stands stands.known
    (at_none profile c.args.self.now c.args.self.now.place stands.place)
