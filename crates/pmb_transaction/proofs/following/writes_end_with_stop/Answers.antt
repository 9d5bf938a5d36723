use Rattle.pmb_transaction.proofs.NextLegs.{stop_follows}
use Rattle.pmb_transaction.proofs.following.writes_end_with_stop.Goals as goal

pub returns : goal.returns
returns c = λ profile parts legs addr device bytes bus few own each new known.
    stop_follows c.pec_is_a_byte.ensures profile bus parts few own legs each addr new device known bytes
