use Rattle.pmb_vid.specs.Vid.{vid}
use Rattle.pmb_format.proofs.OneNearest.{has_one_nearest}
use Rattle.pmb_vid.proofs.Tables.{IsSeparated-vid}
use Rattle.pmb_value.proofs.laws.vid_has_one_nearest.Goals as goal

pub returns : goal.returns
returns c = λ table. has_one_nearest (vid table) (IsSeparated-vid table)
