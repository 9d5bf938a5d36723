use Rattle.pmb_stats_counts.proofs.Empty.{come_is}
use Rattle.pmb_stats_counts.proofs.laws.devices_that_came_have_counts.Goals as goal

pub returns : goal.returns
returns c = come_is
