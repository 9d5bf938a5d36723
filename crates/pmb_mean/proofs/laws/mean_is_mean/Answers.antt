use Rattle.pmb_mean.proofs.MeanLaws.{mean_is_mean}
use Rattle.pmb_mean.proofs.laws.mean_is_mean.Goals as goal

pub returns : goal.returns
returns c numbers q all is = mean_is_mean numbers q all is
