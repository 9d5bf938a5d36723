use Rattle.pmb_mean.proofs.Between.{least_is_least}
use Rattle.pmb_mean.proofs.laws.least_is_least.Goals as goal

pub returns : goal.returns
returns c numbers q all is = least_is_least numbers q all is
