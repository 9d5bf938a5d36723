use Rattle.pmb_telling.proofs.SomeText.{some_text}
use Rattle.pmb_telling.proofs.laws.some_text_is_told.Goals as goal

pub returns : goal.returns
returns c choice profile after bytes bus =
    some_text choice profile (λ n events. c.each_list_has_spans.ensures profile n events bus)
    c.each_text_is_read.ensures after bytes
