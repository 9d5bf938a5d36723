use Rattle.pmb_transaction.proofs.NextLegs.{start_follows}
use Rattle.pmb_transaction.proofs.following.legs_follow_whole_bodies.Goals as goal

pub returns : goal.returns
returns c = λ profile parts legs addr device bytes bus few own each new known.
    start_follows c.pec_is_a_byte.ensures profile bus parts few own legs each addr new device known bytes
