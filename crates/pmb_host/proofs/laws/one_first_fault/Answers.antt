use Rattle.pmb_host.proofs.Faults.{one_fault}
use Rattle.pmb_host.proofs.laws.one_first_fault.Goals as goal

pub returns : goal.returns
returns c = λ profile request a b bus first second. one_fault profile request a b bus first second
