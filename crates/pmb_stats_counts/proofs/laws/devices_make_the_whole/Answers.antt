use Rattle.pmb_stats_counts.proofs.Wholes.{whole}
use Rattle.pmb_stats_counts.proofs.laws.devices_make_the_whole.Goals as goal

pub returns : goal.returns
returns c sort facts addressed = whole sort 128 facts addressed
