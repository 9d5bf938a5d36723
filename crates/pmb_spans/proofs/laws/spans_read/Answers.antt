use Rattle.pmb_spans.proofs.Outcomes.{spans_read}
use Rattle.pmb_spans.proofs.laws.spans_read.Goals as goal

pub returns : goal.returns
returns c = λ profile n events spans w. spans_read profile spans n events w
