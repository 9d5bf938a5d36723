use Rattle.pmb_fact_stream.proofs.Losing.{past_moved}
use Rattle.pmb_telling.proofs.Facts.{counts_moved}
use Rattle.pmb_telling.proofs.laws.moved_spans_count_the_same.Goals as goal

pub returns-clause-counts : goal.returns-clause-counts
returns-clause-counts c ignored n spans counts = counts_moved ignored counts n spans

pub returns-clause-past : goal.returns-clause-past
returns-clause-past c profile n events spans = past_moved profile n events spans
