use Rattle.pmb_times.proofs.Gaps.{stays}
use Rattle.pmb_times.proofs.laws.times_stay.Goals as goal

pub returns : goal.returns
returns c = stays c.each_word_has_a_place.ensures.whole
