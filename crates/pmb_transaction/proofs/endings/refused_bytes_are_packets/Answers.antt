use Rattle.pmb_transaction.proofs.Packets.{byte_packet}
use Rattle.pmb_transaction.proofs.endings.refused_bytes_are_packets.Goals as goal

pub returns : goal.returns
returns c = λ profile parts legs addr device bytes byte bus few own each new known inside small.
    byte_packet c.pec_is_a_byte.ensures profile bus parts few own legs each addr new device known bytes byte inside
    small
