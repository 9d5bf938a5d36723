use Rattle.pmb_transaction.proofs.OneReason.{no_truncation, one_reason}
use Rattle.pmb_transaction.proofs.SomeReading.{some_reason}
use Rattle.pmb_transaction.proofs.SomeReason.{ack_has_reason, byte_has_reason, nack_has_reason}
use Rattle.pmb_transaction.proofs.endings.refused_events_have_a_reason.Goals as goal

pub returns-clause-some : goal.returns-clause-some
returns-clause-some c = λ profile events event bus. some_reason c.pec_is_a_byte.ensures profile bus events event

pub returns-clause-byte : goal.returns-clause-byte
returns-clause-byte c = byte_has_reason

pub returns-clause-ack : goal.returns-clause-ack
returns-clause-ack c = λ profile events bus alone. ack_has_reason c.pec_is_a_byte.ensures profile bus events alone

pub returns-clause-nack : goal.returns-clause-nack
returns-clause-nack c = λ profile events bus alone. nack_has_reason c.pec_is_a_byte.ensures profile bus events alone

pub returns-clause-one : goal.returns-clause-one
returns-clause-one c = one_reason

pub returns-clause-other : goal.returns-clause-other
returns-clause-other c = no_truncation
