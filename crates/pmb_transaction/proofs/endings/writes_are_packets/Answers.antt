use Rattle.pmb_transaction.proofs.Packets.{write_packet}
use Rattle.pmb_transaction.proofs.endings.writes_are_packets.Goals as goal

pub returns : goal.returns
returns c = λ profile parts legs addr device code content with_pec bytes bus few own each new known allowed.
    write_packet c.pec_is_a_byte.ensures profile bus parts few own legs each addr new device known code content with_pec
    bytes allowed
