use Rattle.pmb_reader.proofs.Accounts.{none_is_read}
use Rattle.pmb_reader.proofs.laws.empty_pieces_read_nothing.Goals as goal

pub returns : goal.returns
returns c = none_is_read
