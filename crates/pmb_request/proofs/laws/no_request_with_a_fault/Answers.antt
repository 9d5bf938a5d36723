use Rattle.pmb_request.proofs.OneFault.{no_request_with_a_fault}
use Rattle.pmb_request.proofs.laws.no_request_with_a_fault.Goals as goal

pub returns : goal.returns
returns c = no_request_with_a_fault
