use Rattle.pmb_transaction.proofs.OnePacket.{one_packet}
use Rattle.pmb_transaction.proofs.laws.one_packet.Goals as goal

pub returns : goal.returns
returns c = one_packet
