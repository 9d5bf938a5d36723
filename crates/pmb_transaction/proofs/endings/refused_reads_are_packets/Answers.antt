use Rattle.pmb_transaction.proofs.Packets.{read_refused_packet}
use Rattle.pmb_transaction.proofs.endings.refused_reads_are_packets.Goals as goal

pub returns : goal.returns
returns c = λ profile addr device body bus known is. read_refused_packet c.pec_is_a_byte.ensures profile bus addr device
    body known is
