use Rattle.pmb_transaction.proofs.BytesAlone.{bytes_alone}
use Rattle.pmb_transaction.proofs.following.bytes_alone_follow_in_an_answer.Goals as goal

pub returns : goal.returns
returns c = λ profile front addr bytes event bus. bytes_alone c.pec_is_a_byte.ensures profile bus front addr bytes event
