use Rattle.pmb_transaction.proofs.Ends.{something_follows}
use Rattle.pmb_transaction.proofs.endings.something_follows.Goals as goal

pub returns : goal.returns
returns c = something_follows
