use Rattle.pmb_transaction.proofs.Ends.{stop_follows_nack}
use Rattle.pmb_transaction.proofs.following.stop_follows_nack.Goals as goal

pub returns : goal.returns
returns c = stop_follows_nack
