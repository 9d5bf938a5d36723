use Rattle.pmb_request.proofs.OneFault.{one_request}
use Rattle.pmb_request.proofs.laws.one_request.Goals as goal

pub returns : goal.returns
returns c = one_request c.one_transaction.ensures
