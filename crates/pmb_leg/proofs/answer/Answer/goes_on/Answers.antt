use Rattle.pmb_leg.proofs.Replies.{tells_goes_on}
use Rattle.pmb_leg.proofs.answer.Answer.goes_on.Goals as goal

pub returns : goal.returns
returns c = rw (← c.self.view_is, c.goes_on.ensures) (tells_goes_on c.self.inside c.self.invariant)
