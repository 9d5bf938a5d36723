use Rattle.pmb_transaction.proofs.Stops.{packet_is_not_empty}
use Rattle.pmb_transaction.proofs.laws.packet_is_not_empty.Goals as goal

pub returns : goal.returns
returns c = packet_is_not_empty
