use Rattle.pmb_spans.proofs.Outcomes.{some_spans}
use Rattle.pmb_spans.proofs.laws.each_list_has_spans.Goals as goal

pub returns : goal.returns
returns c = λ profile n events bus. some_spans profile c.each_list_has_a_reading.ensures bus n events
