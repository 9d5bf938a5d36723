use Rattle.pmb_stats_bits.proofs.Around.{first_at}
use Rattle.pmb_stats_bits.proofs.laws.none_is_before_the_first.Goals as goal

pub returns : goal.returns
returns c = first_at
