use Rattle.std.proofs.Common.{arith}
use Rattle.pmb_linear.specs.Linear.{slinear16}
use Rattle.pmb_format.proofs.LawLemmas.{keeps_values}
use Rattle.pmb_value.proofs.laws.slinear16_keeps_values.Goals as goal

pub returns : goal.returns
returns c = λ e _. keeps_values (slinear16 e) (omega arith)
