use Rattle.pmb_times.proofs.Gaps.{last_counted, last_itself, last_spelled}
use Rattle.pmb_times.proofs.laws.the_last_word_has_its_time.Goals as goal

pub returns : goal.returns
returns c = record {
  counted = last_counted c.each_word_has_a_place.ensures.whole;
  spelled = last_spelled c.each_word_has_a_place.ensures.whole;
  itself = last_itself c.each_word_has_a_place.ensures.whole;
}
