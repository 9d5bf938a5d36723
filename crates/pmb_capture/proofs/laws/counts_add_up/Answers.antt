use Rattle.pmb_capture.specs.Check.{checked_output}
use Rattle.pmb_capture.specs.Show.{shown_output}
use Rattle.pmb_capture.proofs.Cuts.{counts_add_up}
use Rattle.pmb_capture.proofs.laws.counts_add_up.Goals as goal

pub returns-clause-checked : goal.returns-clause-checked
returns-clause-checked c profile front back a b all s t tally bus =
    counts_add_up checked_output profile (λ events m n. c.one_reading.ensures profile events m n bus)
    c.one_spelling.ensures
    c.one_bad_word.ensures c.spelled_has_no_bad_word.ensures c.texts_may_be_cut_between_words.ensures.spelled
    c.texts_may_be_cut_between_words.ensures.bad (c.captures_may_be_cut_behind_stop.ensures.joined profile)
    (c.captures_may_be_cut_behind_stop.ensures.whole profile) front back a b all s t tally

pub returns-clause-shown : goal.returns-clause-shown
returns-clause-shown c profile front back a b all s t tally bus =
    counts_add_up (shown_output profile) profile (λ events m n. c.one_reading.ensures profile events m n bus)
    c.one_spelling.ensures
    c.one_bad_word.ensures c.spelled_has_no_bad_word.ensures c.texts_may_be_cut_between_words.ensures.spelled
    c.texts_may_be_cut_between_words.ensures.bad (c.captures_may_be_cut_behind_stop.ensures.joined profile)
    (c.captures_may_be_cut_behind_stop.ensures.whole profile) front back a b all s t tally

pub returns-clause-lines : goal.returns-clause-lines
returns-clause-lines c = λ line events spells stop. record {
  events = events;
  spells = spells;
  stop = stop;
  between = c.texts_may_be_cut_between_words.ensures.lines line;
}
