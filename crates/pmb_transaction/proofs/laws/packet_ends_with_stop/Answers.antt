use Rattle.pmb_transaction.proofs.Stops.{packet_ends_with_stop}
use Rattle.pmb_transaction.proofs.laws.packet_ends_with_stop.Goals as goal

pub returns : goal.returns
returns c = packet_ends_with_stop
