use Rattle.std.proofs.Common.{refl}
use Rattle.pmb_message.specs.Send.{Sends}
use Rattle.pmb_message.proofs.message.send.Goals as goal

-- Nothing was sent.
pub returns-in-Some : goal.returns-in-Some
returns-in-Some c = Sends.nothing c.in-Some.fault c.in-Some.ensures.why refl refl refl c.clear.ensures
