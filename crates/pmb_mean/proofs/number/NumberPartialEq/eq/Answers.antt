use Rattle.std.proofs.Common.{rules}
use Rattle.pmb_mean.proofs.Equality.{in_order}
use Rattle.pmb_mean.proofs.number.NumberPartialEq.eq.Goals as goal

pub returns : goal.returns
returns c = search (rules, in_order)
