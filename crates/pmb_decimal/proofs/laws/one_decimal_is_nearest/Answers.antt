use Rattle.pmb_decimal.proofs.OneNearest.{one_nearest}
use Rattle.pmb_decimal.proofs.laws.one_decimal_is_nearest.Goals as goal

pub returns : goal.returns
returns c digits q positive = one_nearest digits q positive
