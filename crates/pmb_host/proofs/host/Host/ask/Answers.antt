use Rattle.std.proofs.Common.{refl}
use Rattle.pmb_host.proofs.Sending.{next_ask, sends}
use Rattle.pmb_host.proofs.Behind.{job_stays}
use Rattle.pmb_host.proofs.host.Host.ask.Goals as goal

pub returns : goal.returns
returns c = λ standing heard at.
    sends standing heard _ c.args.self.now _ at.job_is (next_ask c.args.self.now standing.job heard at) (
      refl,
      refl,
      record {
        job_is = job_stays c.args.self.now _ standing.job refl refl refl at.job_is;
        well = at.well;
        read = at.read;
        not_failed = at.not_failed;
        short = at.short;
        sent_is = at.sent_is;
        crc_is = at.crc_is;
      },
    )
