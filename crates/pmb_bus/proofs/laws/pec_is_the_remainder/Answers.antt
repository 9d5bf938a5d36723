use Rattle.pmb_bus.proofs.Codes.{pec_is_remainder, remainder_is_pec}
use Rattle.pmb_bus.proofs.laws.pec_is_the_remainder.Goals as goal

pub returns : goal.returns
returns c = λ bytes code byte. (pec_is_remainder bytes code, remainder_is_pec bytes code byte)
