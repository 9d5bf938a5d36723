use Rattle.pmb_reader.proofs.Accounts.{piece_goes_on}
use Rattle.pmb_reader.proofs.laws.pieces_go_on.Goals as goal

pub returns : goal.returns
returns c = λ profile. piece_goes_on profile c.passing_goes_on.ensures.other
