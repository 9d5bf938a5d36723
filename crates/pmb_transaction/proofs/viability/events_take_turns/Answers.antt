use Rattle.pmb_transaction.proofs.Turns.{events_take_turns}
use Rattle.pmb_transaction.proofs.viability.events_take_turns.Goals as goal

pub returns : goal.returns
returns c = events_take_turns
