use Rattle.pmb_transaction.proofs.AddressBytes.{nack_follows}
use Rattle.pmb_transaction.proofs.following.addresses_may_be_refused.Goals as goal

pub returns : goal.returns
returns c = λ profile parts legs addr bus few own each new seven.
    nack_follows c.pec_is_a_byte.ensures profile bus parts few own legs each addr new seven
