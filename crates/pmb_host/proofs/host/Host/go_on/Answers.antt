use Rattle.std.proofs.Common.{sym, ◌∙◌}
use Rattle.pmb_host.proofs.Bytes.{has_byte, has_none}
use Rattle.pmb_host.proofs.host.Host.go_on.Goals as goal

pub returns-in-Some : goal.returns-in-Some
returns-in-Some c = λ standing heard at.
    c.send.ensures standing heard (has_byte c.args.self.now standing.job heard at _
    (sym c.in-Some.is ∙ c.next_byte.ensures standing.job heard at))

pub returns-in-None : goal.returns-in-None
returns-in-None c = λ standing heard at.
    c.end_leg.ensures standing heard (has_none c.args.self.now standing.job heard at
    (sym c.in-None.is ∙ c.next_byte.ensures standing.job heard at))
