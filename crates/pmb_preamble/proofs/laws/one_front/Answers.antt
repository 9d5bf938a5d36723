use Rattle.pmb_preamble.proofs.Fronts.{unique, stays}
use Rattle.pmb_preamble.proofs.laws.one_front.Goals as goal

pub returns-clause-unique : goal.returns-clause-unique
returns-clause-unique c = unique

pub returns-clause-stays : goal.returns-clause-stays
returns-clause-stays c = stays
