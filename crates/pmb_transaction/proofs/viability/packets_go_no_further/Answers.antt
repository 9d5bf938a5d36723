use Rattle.pmb_transaction.proofs.Turns.{packets_go_no_further}
use Rattle.pmb_transaction.proofs.viability.packets_go_no_further.Goals as goal

pub returns : goal.returns
returns c = packets_go_no_further
