use Rattle.std.proofs.Common.{arith}
use Rattle.pmb_linear.specs.Linear.{linear11}
use Rattle.pmb_format.proofs.LawLemmas.{keeps_values}
use Rattle.pmb_value.proofs.laws.linear11_keeps_values.Goals as goal

pub returns : goal.returns
returns c = keeps_values linear11 (omega arith)
