use Rattle.pmb_request.proofs.OneFault.{one_request_fault}
use Rattle.pmb_request.proofs.laws.one_request_fault.Goals as goal

pub returns : goal.returns
returns c = one_request_fault
