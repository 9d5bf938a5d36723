use Rattle.pmb_host.proofs.Faults.{allowed_or_fault}
use Rattle.pmb_host.proofs.laws.allowed_requests_have_no_fault.Goals as goal

pub returns : goal.returns
returns c = λ profile request word number fault bus allowed broken. allowed_or_fault profile request word number fault
    bus allowed broken
