use Rattle.pmb_exchange.proofs.Runs.{runs_are_exchanges}
use Rattle.pmb_exchange.proofs.laws.runs_are_exchanges.Goals as goal

pub returns : goal.returns
returns c = runs_are_exchanges
