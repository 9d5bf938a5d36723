use Rattle.pmb_transaction.proofs.OneTransaction.{one_transaction}
use Rattle.pmb_transaction.proofs.laws.one_transaction.Goals as goal

pub returns : goal.returns
returns c = one_transaction
