use Rattle.pmb_times.proofs.Gaps.{gaps_counted}
use Rattle.pmb_times.proofs.laws.each_word_has_a_gap.Goals as goal

pub returns : goal.returns
returns c = gaps_counted c.each_word_has_a_place.ensures.whole
