use Rattle.pmb_spans.proofs.Cuts.{spans_move}
use Rattle.pmb_spans.proofs.laws.spans_move.Goals as goal

pub returns : goal.returns
returns c = λ profile n m events spans w.
    spans_move profile (c.refusals_move.ensures.refused profile) (c.refusals_move.ensures.truncated profile) n spans m
    events w
