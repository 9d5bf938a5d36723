use Rattle.std.proofs.Common.{arith}
use Rattle.pmb_quantity.proofs.Twos.{common_twos}
use Rattle.pmb_quantity.proofs.quantity.common_halvings.Goals as goal

pub returns-clause-value : goal.returns-clause-value
returns-clause-value c = rw c.min.ensures (common_twos c.args.number c.args.halvings (omega arith) c.requires)
