use Rattle.std.proofs.Common.{arith}
use Rattle.pmb_canonical.proofs.Found.{addressed}
use Rattle.pmb_canonical.proofs.packets.addressed.Goals as goal

pub returns-clause-known : goal.returns-clause-known
returns-clause-known c = addressed c.args.profile.now c.args.to_write c.device.result (λ d. d.now)
    (omega arith) c.device.ensures.device
