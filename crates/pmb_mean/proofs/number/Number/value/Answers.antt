use Rattle.std.proofs.Common.{subst}
use Rattle.pmb_mean.specs.Numbers.{FitsKind}
use Rattle.pmb_mean.proofs.number.Number.value.Goals as goal

pub returns-clause-holds : goal.returns-clause-holds
returns-clause-holds c = subst FitsKind c.self.view_is c.self.invariant
