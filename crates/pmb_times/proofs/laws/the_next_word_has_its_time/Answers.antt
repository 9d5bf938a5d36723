use Rattle.pmb_times.proofs.Gaps.{behind_all, behind_spelled, next_word}
use Rattle.pmb_times.proofs.laws.the_next_word_has_its_time.Goals as goal

pub returns : goal.returns
returns c = record {
  next = next_word c.each_word_has_a_place.ensures.whole;
  last = behind_all c.each_word_has_a_place.ensures.whole;
  spelled = behind_spelled c.each_word_has_a_place.ensures.whole;
}
