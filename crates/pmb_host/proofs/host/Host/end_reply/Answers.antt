use Rattle.std.proofs.Common.{refl}
use Rattle.pmb_host.proofs.Sending.{sends}
use Rattle.pmb_host.proofs.Behind.{job_stays}
use Rattle.pmb_host.proofs.Taking.{next_nack, read_stops}
use Rattle.pmb_host.proofs.host.Host.end_reply.Goals as goal

pub returns : goal.returns
returns c = λ standing heard at.
    sends standing heard _ c.args.self.now _ at.job_is (next_nack c.args.self.now standing.job heard at) (
      refl,
      λ result. read_stops c.args.self.now standing.job heard at result _
          (job_stays c.args.self.now _ standing.job refl refl refl at.job_is) refl refl,
    )
