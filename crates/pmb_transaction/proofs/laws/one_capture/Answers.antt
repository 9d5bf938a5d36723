use Rattle.pmb_transaction.proofs.Captures.{one_capture}
use Rattle.pmb_transaction.proofs.laws.one_capture.Goals as goal

pub returns : goal.returns
returns c = one_capture
