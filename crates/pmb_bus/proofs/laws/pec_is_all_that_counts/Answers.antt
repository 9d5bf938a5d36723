use Rattle.pmb_bus.proofs.Codes.{pec_alike}
use Rattle.pmb_bus.proofs.laws.pec_is_all_that_counts.Goals as goal

pub returns : goal.returns
returns c = pec_alike
