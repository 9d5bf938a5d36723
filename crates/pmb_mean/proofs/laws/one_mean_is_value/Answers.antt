use Rattle.pmb_mean.proofs.OneValue.{one_value}
use Rattle.pmb_mean.proofs.laws.one_mean_is_value.Goals as goal

pub returns : goal.returns
returns c digits n is = one_value digits n is
