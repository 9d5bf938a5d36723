use Rattle.pmb_wire_packets.proofs.DrawnLaw.{reads_drawn}
use Rattle.pmb_wire_packets.proofs.laws.reads_drawn_packets.Goals as goal

pub returns : goal.returns
returns c = reads_drawn
