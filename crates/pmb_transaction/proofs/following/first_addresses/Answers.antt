use Rattle.pmb_transaction.proofs.AddressBytes.{first_follows}
use Rattle.pmb_transaction.proofs.following.first_addresses.Goals as goal

pub returns : goal.returns
returns c = λ profile byte bus. first_follows c.pec_is_a_byte.ensures profile bus byte
