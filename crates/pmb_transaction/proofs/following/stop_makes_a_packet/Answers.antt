use Rattle.pmb_transaction.proofs.Ends.{stop_makes_a_packet}
use Rattle.pmb_transaction.proofs.following.stop_makes_a_packet.Goals as goal

pub returns : goal.returns
returns c = stop_makes_a_packet
