use Rattle.std.proofs.Common.{[]}
use Rattle.pmb_bus.specs.Address.{alert_address}
use Rattle.pmb_transaction.specs.Following.{IsAlertAnswer}
use Rattle.pmb_transaction.proofs.Alerts.{alert_is_read}
use Rattle.pmb_transaction.proofs.ReadLegs.{byte_follows}
use Rattle.pmb_transaction.proofs.following.bytes_follow_in_an_alert.Goals as goal

pub returns : goal.returns
returns c = λ profile bytes byte bus.
    byte_follows c.pec_is_a_byte.ensures profile bus [] alert_address IsAlertAnswer (alert_is_read profile) bytes byte
