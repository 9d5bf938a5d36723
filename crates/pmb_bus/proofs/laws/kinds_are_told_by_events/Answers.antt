use Rattle.pmb_bus.proofs.KindSets.{same_kinds}
use Rattle.pmb_bus.proofs.laws.kinds_are_told_by_events.Goals as goal

pub returns : goal.returns
returns c = same_kinds
