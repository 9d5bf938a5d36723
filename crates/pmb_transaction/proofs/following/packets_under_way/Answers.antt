use Rattle.pmb_transaction.proofs.Ends.{packets_under_way}
use Rattle.pmb_transaction.proofs.following.packets_under_way.Goals as goal

pub returns : goal.returns
returns c = packets_under_way
