use Rattle.std.proofs.Common.{refl}
use Rattle.pmb_mean.proofs.Standing.{stands_first}
use Rattle.pmb_mean.proofs.history.NumberHistory.new.Goals as goal

pub returns : goal.returns
returns c = stands_first _ refl refl refl
