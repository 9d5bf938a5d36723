use Rattle.std.proofs.Common.{refl, arith}
use Rattle.pmb_host.proofs.Sending.{next_byte, sends}
use Rattle.pmb_host.proofs.Behind.{behind_byte}
use Rattle.pmb_host.proofs.host.Host.send.Goals as goal

pub returns : goal.returns
returns c = λ standing heard at.
    sends standing heard _ c.args.self.now _ at.inside.writing.job_is
    (next_byte c.args.self.now standing.job heard c.args.byte at) (
      refl,
      behind_byte c.args.self.now standing.job heard c.args.byte at c.saturating_add-self.result c.pec_next-self.result
          (λ short. let sum = c.saturating_add-self.ensures in omega (arith, short, sum))
          (λ bytes is. c.pec_next-self.ensures.goes_on bytes is),
    )
