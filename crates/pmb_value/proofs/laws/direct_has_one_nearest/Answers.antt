use Rattle.pmb_format.specs.Direct.{direct}
use Rattle.pmb_format.proofs.OneNearest.{has_one_nearest}
use Rattle.pmb_format.proofs.DirectRows.{IsSeparated-direct}
use Rattle.pmb_value.proofs.laws.direct_has_one_nearest.Goals as goal

pub returns : goal.returns
returns c = λ d slope. has_one_nearest (direct d) (IsSeparated-direct d slope)
