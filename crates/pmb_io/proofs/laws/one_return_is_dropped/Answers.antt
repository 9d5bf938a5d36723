use Rattle.pmb_io.proofs.LineLemmas.{return_dropped, no_return_kept}
use Rattle.pmb_io.proofs.laws.one_return_is_dropped.Goals as goal

pub returns-clause-dropped : goal.returns-clause-dropped
returns-clause-dropped c = return_dropped

pub returns-clause-kept : goal.returns-clause-kept
returns-clause-kept c = no_return_kept
