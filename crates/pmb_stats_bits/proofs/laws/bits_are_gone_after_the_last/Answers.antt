use Rattle.pmb_stats_bits.proofs.Around.{gone_at, never_set, still_set}
use Rattle.pmb_stats_bits.proofs.laws.bits_are_gone_after_the_last.Goals as goal

pub returns : goal.returns
returns c = record { gone = gone_at; still = still_set; never = never_set }
