use Rattle.pmb_bus.proofs.Spelling.{one_spelling}
use Rattle.pmb_bus.proofs.laws.one_spelling.Goals as goal

pub returns : goal.returns
returns c = one_spelling
