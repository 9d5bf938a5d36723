use Rattle.pmb_wire_packets.proofs.PiecesLaw.{reads_pieces}
use Rattle.pmb_wire_packets.proofs.laws.reads_all_pieces.Goals as goal

pub returns : goal.returns
returns c = reads_pieces c.tells_signals.ensures
