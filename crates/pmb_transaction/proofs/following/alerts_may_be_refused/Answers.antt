use Rattle.pmb_transaction.proofs.Alerts.{nack_follows}
use Rattle.pmb_transaction.proofs.following.alerts_may_be_refused.Goals as goal

pub returns : goal.returns
returns c = nack_follows
