use Rattle.pmb_reader.proofs.Accounts.{is_truncated}
use Rattle.pmb_reader.proofs.laws.reading_is_truncated.Goals as goal

pub returns : goal.returns
returns c = is_truncated
