use Rattle.pmb_linear.proofs.Linear11Ends.{IsLeast-linear11}
use Rattle.pmb_linear.proofs.linear11.Linear11Codes.least.Goals as goal

pub returns : goal.returns
returns c = IsLeast-linear11
