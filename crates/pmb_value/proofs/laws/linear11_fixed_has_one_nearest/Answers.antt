use Rattle.pmb_linear.specs.Linear.{linear11_fixed}
use Rattle.pmb_format.proofs.OneNearest.{has_one_nearest}
use Rattle.pmb_linear.proofs.FixedExponent.{IsSeparated-linear11_fixed}
use Rattle.pmb_value.proofs.laws.linear11_fixed_has_one_nearest.Goals as goal

pub returns : goal.returns
returns c = λ e fits. has_one_nearest (linear11_fixed e) (IsSeparated-linear11_fixed e fits)
