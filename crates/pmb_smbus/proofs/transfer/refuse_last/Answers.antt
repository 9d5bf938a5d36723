use Rattle.pmb_smbus.proofs.Wire.{last_is_refused}
use Rattle.pmb_smbus.proofs.transfer.refuse_last.Goals as goal

pub returns-in-Some : goal.returns-in-Some
returns-in-Some c =
    last_is_refused c.args.wire.now.items c.pop.new.self.items c.push.new.self.items c.in-Some.last c.refused.result
    (rw c.in-Some.is at c.pop.ensures.items) c.refused.ensures c.push.ensures.items
