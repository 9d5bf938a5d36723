use Rattle.pmb_reader.proofs.Accounts.{goes_on}
use Rattle.pmb_reader.proofs.laws.reading_goes_on.Goals as goal

pub returns : goal.returns
returns c = λ profile. goes_on profile c.passing_goes_on.ensures.other
