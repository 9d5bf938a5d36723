use Rattle.pmb_stats.proofs.BitCounts.{pages_make_the_whole}
use Rattle.pmb_stats.proofs.laws.pages_make_the_whole.Goals as goal

pub returns : goal.returns
returns c = pages_make_the_whole
