use Rattle.pmb_stats_bits.proofs.Around.{last_at}
use Rattle.pmb_stats_bits.proofs.laws.none_is_after_the_last.Goals as goal

pub returns : goal.returns
returns c = last_at
