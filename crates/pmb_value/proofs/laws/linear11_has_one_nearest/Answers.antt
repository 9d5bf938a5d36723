use Rattle.pmb_linear.specs.Linear.{linear11}
use Rattle.pmb_format.proofs.OneNearest.{has_one_nearest}
use Rattle.pmb_linear.proofs.OneLinear11.{IsSeparated-linear11}
use Rattle.pmb_value.proofs.laws.linear11_has_one_nearest.Goals as goal

pub returns : goal.returns
returns c = has_one_nearest linear11 IsSeparated-linear11
