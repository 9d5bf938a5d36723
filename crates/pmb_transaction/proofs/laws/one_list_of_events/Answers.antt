use Rattle.pmb_transaction.proofs.Captures.{one_list_of_events}
use Rattle.pmb_transaction.proofs.laws.one_list_of_events.Goals as goal

pub returns : goal.returns
returns c = one_list_of_events
