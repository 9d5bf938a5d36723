use Rattle.pmb_bus.proofs.Codes.{pec_of_whole}
use Rattle.pmb_bus.proofs.laws.pec_leaves_no_remainder.Goals as goal

pub returns : goal.returns
returns c = pec_of_whole
