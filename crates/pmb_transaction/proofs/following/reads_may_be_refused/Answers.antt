use Rattle.pmb_transaction.proofs.Replies.{nack_follows}
use Rattle.pmb_transaction.proofs.following.reads_may_be_refused.Goals as goal

pub returns : goal.returns
returns c = λ profile addr device body bus known is. nack_follows c.pec_is_a_byte.ensures profile bus addr device known
    body is
