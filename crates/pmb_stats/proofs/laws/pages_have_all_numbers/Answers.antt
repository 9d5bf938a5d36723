use Rattle.pmb_stats.proofs.NumberCounts.{pages_have_all_numbers}
use Rattle.pmb_stats.proofs.laws.pages_have_all_numbers.Goals as goal

pub returns : goal.returns
returns c = pages_have_all_numbers
