use Rattle.pmb_linear.proofs.Linear11Ends.{IsGreatest-linear11}
use Rattle.pmb_linear.proofs.linear11.Linear11Codes.greatest.Goals as goal

pub returns : goal.returns
returns c = IsGreatest-linear11
