use Rattle.pmb_transaction.proofs.Ends.{packets_go_on}
use Rattle.pmb_transaction.proofs.following.packets_go_on.Goals as goal

pub returns : goal.returns
returns c = packets_go_on
