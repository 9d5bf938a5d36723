use Rattle.pmb_half.specs.Half.{half}
use Rattle.pmb_format.proofs.OneNearest.{has_one_nearest}
use Rattle.pmb_half.proofs.OneHalf.{IsSeparated-half}
use Rattle.pmb_value.proofs.laws.half_has_one_nearest.Goals as goal

pub returns : goal.returns
returns c = has_one_nearest half IsSeparated-half
