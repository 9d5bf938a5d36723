use Rattle.pmb_telling.proofs.OneFront.{one_front}
use Rattle.pmb_telling.proofs.laws.one_text_is_told_so_far.Goals as goal

pub returns : goal.returns
returns c choice profile after bytes a b bus =
    one_front choice profile (λ n events x y. c.one_list_of_spans.ensures profile n events x y bus)
    c.one_spelling.ensures c.one_bad_word.ensures
    c.spelled_has_no_bad_word.ensures after bytes a b
