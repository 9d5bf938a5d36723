use Rattle.pmb_mean.proofs.Between.{greatest_is_greatest}
use Rattle.pmb_mean.proofs.laws.greatest_is_greatest.Goals as goal

pub returns : goal.returns
returns c numbers q all is = greatest_is_greatest numbers q all is
