use Rattle.pmb_transaction.proofs.Packets.{alert_packet}
use Rattle.pmb_transaction.proofs.endings.alerts_are_packets.Goals as goal

pub returns : goal.returns
returns c = alert_packet
