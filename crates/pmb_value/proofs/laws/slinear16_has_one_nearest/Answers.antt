use Rattle.pmb_linear.specs.Linear.{slinear16}
use Rattle.pmb_format.proofs.OneNearest.{has_one_nearest}
use Rattle.pmb_linear.proofs.LinearRows.{IsSeparated-slinear16}
use Rattle.pmb_value.proofs.laws.slinear16_has_one_nearest.Goals as goal

pub returns : goal.returns
returns c = λ e _. has_one_nearest (slinear16 e) (IsSeparated-slinear16 e)
