use Rattle.pmb_bus.proofs.Codes.{pec_small}
use Rattle.pmb_bus.proofs.laws.pec_is_a_byte.Goals as goal

pub returns : goal.returns
returns c = pec_small
