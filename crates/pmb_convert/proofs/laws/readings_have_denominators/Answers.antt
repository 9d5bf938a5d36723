use Rattle.pmb_convert.proofs.Determined.{reading-positive}
use Rattle.pmb_convert.proofs.laws.readings_have_denominators.Goals as goal

pub returns : goal.returns
returns c = reading-positive (λ n d positive. (c.lowest_terms.ensures n d positive).positive)
