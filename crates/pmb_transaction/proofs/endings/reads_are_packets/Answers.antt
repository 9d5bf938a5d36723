use Rattle.pmb_transaction.proofs.Packets.{read_packet}
use Rattle.pmb_transaction.proofs.endings.reads_are_packets.Goals as goal

pub returns : goal.returns
returns c = λ profile addr device body form reply with_pec bytes byte code read_form bus known asks fits mode spelled
    read.
    read_packet profile bus addr device known body form reply with_pec bytes byte code read_form asks fits mode spelled
    read
