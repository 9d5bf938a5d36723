use Rattle.std.proofs.Common.{◌∷◌}
use Rattle.pmb_bus.specs.Address.{write_address}
use Rattle.pmb_transaction.specs.Packet.{leg}
use Rattle.pmb_transaction.specs.Viable.{IsAnswer}
use Rattle.pmb_transaction.proofs.ReadLegs.{byte_follows}
use Rattle.pmb_transaction.proofs.Replies.{reply_is_read}
use Rattle.pmb_transaction.proofs.following.bytes_follow_in_a_reply.Goals as goal

pub returns : goal.returns
returns c = λ profile addr device body bytes byte bus known.
    byte_follows c.pec_is_a_byte.ensures profile bus (leg (write_address addr ∷ body)) addr (IsAnswer device addr body)
    (reply_is_read c.pec_is_a_byte.ensures profile bus addr device known body) bytes byte
