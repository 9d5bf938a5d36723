use Rattle.pmb_format.proofs.DirectRows.{IsRow-direct}
use Rattle.pmb_format.proofs.direct.DirectEvenlySpaced.spacing.Goals as goal

pub returns-clause-in_order : goal.returns-clause-in_order
returns-clause-in_order c = IsRow-direct c.args.self.now c.r.ensures.kept.slope
