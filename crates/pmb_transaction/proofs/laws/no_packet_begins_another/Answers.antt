use Rattle.pmb_transaction.proofs.Stops.{no_packet_begins_another}
use Rattle.pmb_transaction.proofs.laws.no_packet_begins_another.Goals as goal

pub returns : goal.returns
returns c = no_packet_begins_another
