use Rattle.pmb_explain.proofs.Listed.{listed}
use Rattle.pmb_explain.proofs.laws.each_fault_is_explained.Goals as goal

pub returns : goal.returns
returns c = listed
