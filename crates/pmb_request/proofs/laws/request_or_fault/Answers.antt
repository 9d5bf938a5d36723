use Rattle.pmb_request.proofs.SomeRequest.{request_or_fault}
use Rattle.pmb_request.proofs.laws.request_or_fault.Goals as goal

pub returns : goal.returns
returns c = request_or_fault
