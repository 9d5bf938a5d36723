use Rattle.pmb_linear.specs.Linear.{ulinear16}
use Rattle.pmb_format.proofs.OneNearest.{has_one_nearest}
use Rattle.pmb_linear.proofs.LinearRows.{IsSeparated-ulinear16}
use Rattle.pmb_value.proofs.laws.ulinear16_has_one_nearest.Goals as goal

pub returns : goal.returns
returns c = λ e _. has_one_nearest (ulinear16 e) (IsSeparated-ulinear16 e)
