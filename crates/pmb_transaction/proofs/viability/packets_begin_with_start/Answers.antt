use Rattle.pmb_transaction.proofs.FirstEvents.{packets_begin_with_start}
use Rattle.pmb_transaction.proofs.viability.packets_begin_with_start.Goals as goal

pub returns : goal.returns
returns c = λ profile event bus. packets_begin_with_start profile c.pec_is_a_byte.ensures bus event
