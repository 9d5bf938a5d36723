use Rattle.pmb_transaction.proofs.NextLegs.{byte_follows}
use Rattle.pmb_transaction.proofs.following.later_addresses.Goals as goal

pub returns : goal.returns
returns c = λ profile parts legs addr device bytes byte bus few own each new known.
    byte_follows c.pec_is_a_byte.ensures profile bus parts few own legs each addr new device known bytes byte
