use Rattle.pmb_half.proofs.HalfEnds.{IsLeast-half}
use Rattle.pmb_half.proofs.half.HalfCodes.least.Goals as goal

pub returns : goal.returns
returns c = IsLeast-half
