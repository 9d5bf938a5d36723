use Rattle.pmb_half.proofs.HalfEnds.{IsGreatest-half}
use Rattle.pmb_half.proofs.half.HalfCodes.greatest.Goals as goal

pub returns : goal.returns
returns c = IsGreatest-half
