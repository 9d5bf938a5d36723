use Rattle.pmb_reader.proofs.Accounts.{is_accepted}
use Rattle.pmb_reader.proofs.laws.reading_accepts.Goals as goal

pub returns : goal.returns
returns c = is_accepted
