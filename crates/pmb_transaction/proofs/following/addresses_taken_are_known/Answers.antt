use Rattle.pmb_transaction.proofs.AddressBytes.{ack_follows}
use Rattle.pmb_transaction.proofs.following.addresses_taken_are_known.Goals as goal

pub returns : goal.returns
returns c = λ profile parts legs addr bus few own each new.
    ack_follows c.pec_is_a_byte.ensures profile bus parts few own legs each addr new
