use Rattle.pmb_transaction.proofs.Bytes.{packets_are_bytes}
use Rattle.pmb_transaction.proofs.laws.packets_are_bytes.Goals as goal

pub returns : goal.returns
returns c = λ profile t events bus packet. packets_are_bytes c.pec_is_a_byte.ensures profile bus t events packet
