use Rattle.pmb_line.proofs.Uniqueness.{one_transaction}
use Rattle.pmb_line.proofs.laws.one_transaction.Goals as goal

pub returns : goal.returns
returns c = one_transaction
