use Rattle.pmb_transaction.proofs.Packets.{part_more}
use Rattle.pmb_transaction.proofs.endings.one_part_more.Goals as goal

pub returns : goal.returns
returns c = λ profile parts legs addr device code content with_pec bytes bus few own each new known allowed.
    part_more c.pec_is_a_byte.ensures profile bus parts few own legs each addr new device known code content with_pec
    bytes allowed
