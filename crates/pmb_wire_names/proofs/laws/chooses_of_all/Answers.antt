use Rattle.pmb_wire_names.proofs.KeptLaw.{chooses}
use Rattle.pmb_wire_names.proofs.laws.chooses_of_all.Goals as goal

pub returns : goal.returns
returns c = chooses
