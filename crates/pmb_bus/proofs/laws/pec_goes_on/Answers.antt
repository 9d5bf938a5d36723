use Rattle.pmb_bus.proofs.Codes.{pec_step}
use Rattle.pmb_bus.proofs.laws.pec_goes_on.Goals as goal

pub returns : goal.returns
returns c = pec_step
