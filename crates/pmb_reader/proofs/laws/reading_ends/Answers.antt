use Rattle.pmb_reader.proofs.Accounts.{all_is_read}
use Rattle.pmb_reader.proofs.laws.reading_ends.Goals as goal

pub returns : goal.returns
returns c = all_is_read
