use Rattle.pmb_fact_stream.specs.Before.{at_first}
use Rattle.pmb_telling.proofs.OneText.{one_list, one_text}
use Rattle.pmb_telling.proofs.laws.one_text_is_told.Goals as goal

pub returns : goal.returns
returns c choice profile after bytes a b s t bus =
    one_text choice profile after bytes a b s t
    (one_list choice.ignored profile (λ n events x y. c.one_list_of_spans.ensures profile n events x y bus)
    c.one_spelling.ensures c.one_bad_word.ensures
    c.spelled_has_no_bad_word.ensures after at_first bytes)
