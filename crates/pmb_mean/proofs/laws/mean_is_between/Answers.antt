use Rattle.pmb_mean.proofs.Between.{mean_is_between}
use Rattle.pmb_mean.proofs.laws.mean_is_between.Goals as goal

pub returns : goal.returns
returns c numbers low q high all low_is is high_is = mean_is_between numbers low q high all low_is is high_is
