use Rattle.pmb_transaction.proofs.Packets.{call_packet}
use Rattle.pmb_transaction.proofs.endings.calls_are_packets.Goals as goal

pub returns : goal.returns
returns c = λ profile addr device body form reply with_pec bytes byte code content call_form bus known asks fits mode
    spelled call.
    call_packet profile bus addr device known body form reply with_pec bytes byte code content call_form asks fits mode
    spelled call
