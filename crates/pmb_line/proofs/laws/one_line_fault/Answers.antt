use Rattle.pmb_line.proofs.OneFault.{one_line_fault}
use Rattle.pmb_line.proofs.laws.one_line_fault.Goals as goal

pub returns : goal.returns
returns c = one_line_fault
