use Rattle.std.proofs.Common.{arith}
use Rattle.pmb_leg.proofs.Replies.{tells_begins}
use Rattle.pmb_leg.proofs.answer.Answer.begins.Goals as goal

pub returns : goal.returns
returns c = rw (← c.self.view_is, c.takes.ensures)
    (tells_begins c.self.inside c.self.invariant c.args.byte (omega arith))
