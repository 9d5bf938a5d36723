use Rattle.std.proofs.Common.{refl}
use Rattle.pmb_bus.specs.Pec.{plus, divide_step, left_after, number, pec}
use Rattle.pmb_bus.proofs.laws.worked_pecs.Goals as goal

pub returns-clause-nothing : goal.returns-clause-nothing
unfolding left_after number pec
returns-clause-nothing c = refl

pub returns-clause-digits : goal.returns-clause-digits
unfolding plus divide_step left_after number pec
returns-clause-digits c = refl
