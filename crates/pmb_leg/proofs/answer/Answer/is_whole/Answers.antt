use Rattle.pmb_leg.proofs.Replies.{tells_whole}
use Rattle.pmb_leg.proofs.answer.Answer.is_whole.Goals as goal

pub returns : goal.returns
returns c = rw (← c.self.view_is, c.is_whole.ensures) (tells_whole c.self.inside c.self.invariant)
