use Rattle.pmb_fact_stream.specs.Before.{at_first}
use Rattle.pmb_telling.proofs.OneText.{one_list}
use Rattle.pmb_telling.proofs.laws.one_list_of_facts.Goals as goal

pub returns : goal.returns
returns c ignored profile after bytes bad lines facts others counts more bus =
    one_list ignored profile (λ n events x y. c.one_list_of_spans.ensures profile n events x y bus)
    c.one_spelling.ensures c.one_bad_word.ensures
    c.spelled_has_no_bad_word.ensures after at_first bytes bad lines facts others counts more
