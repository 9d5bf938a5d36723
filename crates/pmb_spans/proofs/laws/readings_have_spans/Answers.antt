use Rattle.pmb_spans.proofs.Outcomes.{readings_have_spans}
use Rattle.pmb_spans.proofs.laws.readings_have_spans.Goals as goal

pub returns : goal.returns
returns c = λ profile n events outcomes reads. readings_have_spans profile outcomes n events reads
