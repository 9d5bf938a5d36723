use Rattle.std.proofs.Common.{arith}
use Rattle.pmb_linear.specs.Linear.{linear11_fixed}
use Rattle.pmb_format.proofs.LawLemmas.{keeps_values}
use Rattle.pmb_value.proofs.laws.linear11_fixed_keeps_values.Goals as goal

pub returns : goal.returns
returns c = λ e _. keeps_values (linear11_fixed e) (omega arith)
