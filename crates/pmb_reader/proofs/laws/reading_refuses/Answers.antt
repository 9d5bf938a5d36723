use Rattle.pmb_reader.proofs.Accounts.{is_refused}
use Rattle.pmb_reader.proofs.laws.reading_refuses.Goals as goal

pub returns : goal.returns
returns c = is_refused
