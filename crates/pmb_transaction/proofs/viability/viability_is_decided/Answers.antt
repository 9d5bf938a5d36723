use Rattle.pmb_transaction.proofs.FinitePackets.{viable}
use Rattle.pmb_transaction.proofs.viability.viability_is_decided.Goals as goal

pub returns : goal.returns
returns c = λ profile events bus. viable c.pec_is_a_byte.ensures profile bus events
