use Rattle.pmb_quantity.proofs.LawLemmas.{are_lowest_terms}
use Rattle.pmb_quantity.proofs.laws.lowest_terms.Goals as goal

pub returns : goal.returns
returns c = are_lowest_terms
