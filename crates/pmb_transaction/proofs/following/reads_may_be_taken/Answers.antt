use Rattle.pmb_transaction.proofs.Replies.{ack_follows}
use Rattle.pmb_transaction.proofs.following.reads_may_be_taken.Goals as goal

pub returns : goal.returns
returns c = λ profile addr device body bus known is. ack_follows c.pec_is_a_byte.ensures profile bus addr device known
    body is
