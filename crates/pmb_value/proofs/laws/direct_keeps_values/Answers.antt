use Rattle.pmb_format.specs.Direct.{positive_part, direct}
use Rattle.pmb_format.proofs.DirectLemmas.{denominator_positive}
use Rattle.pmb_format.proofs.LawLemmas.{keeps_values}
use Rattle.pmb_value.proofs.laws.direct_keeps_values.Goals as goal

pub returns : goal.returns
returns c = λ d slope. keeps_values (direct d) (denominator_positive d.m (positive_part d.r) slope)
