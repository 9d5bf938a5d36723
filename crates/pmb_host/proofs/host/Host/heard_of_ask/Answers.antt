use Rattle.pmb_host.proofs.Stopping.{no_byte_stops}
use Rattle.pmb_host.proofs.host.Host.heard_of_ask.Goals as goal

pub returns-in_default : goal.returns-in_default
returns-in_default c = λ standing heard at.
    c.stop.ensures standing _ (no_byte_stops c.args.self.now standing.job heard c.args.answer at
    (λ b is. c.in_default.not-Byte b is))
