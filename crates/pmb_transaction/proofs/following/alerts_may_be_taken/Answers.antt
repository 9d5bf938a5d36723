use Rattle.pmb_transaction.proofs.Alerts.{ack_follows}
use Rattle.pmb_transaction.proofs.following.alerts_may_be_taken.Goals as goal

pub returns : goal.returns
returns c = λ profile bus. ack_follows c.pec_is_a_byte.ensures profile bus
