use Rattle.std.proofs.Common.{arith}
use Rattle.pmb_half.specs.Half.{half}
use Rattle.pmb_format.proofs.LawLemmas.{keeps_values}
use Rattle.pmb_value.proofs.laws.half_keeps_values.Goals as goal

pub returns : goal.returns
returns c = keeps_values half (omega arith)
