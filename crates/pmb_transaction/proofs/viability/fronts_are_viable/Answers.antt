use Rattle.pmb_transaction.proofs.Readings.{front_is_viable}
use Rattle.pmb_transaction.proofs.viability.fronts_are_viable.Goals as goal

pub returns : goal.returns
returns c = front_is_viable
