use Rattle.std.proofs.Common.{refl, arith}
use Rattle.pmb_host.proofs.Sending.{next_start, sends}
use Rattle.pmb_host.proofs.Behind.{behind_start, leg_after, form_after}
use Rattle.pmb_host.proofs.host.Host.start.Goals as goal

pub returns : goal.returns
returns c = λ standing heard at.
    let sum = c.saturating_add-self.ensures in
    let leg_is = leg_after c.args.self.now standing.job heard c.saturating_add-self.result at
    (λ short. omega (arith, short, sum)) in
    sends standing heard _ c.args.self.now _ at.writing.job_is (next_start c.args.self.now standing.job heard at) (
      refl,
      λ result. behind_start c.args.self.now standing.job heard c.saturating_add-self.result _
          c.crc_before_leg-self.result c.form_under_way-self.result result at refl leg_is
          (form_after c.args.self.now standing.job heard c.saturating_add-self.result c.form_under_way-self.result at
          leg_is c.form_under_way-self.ensures) c.crc_before_leg-self.ensures,
    )
