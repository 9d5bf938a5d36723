use Rattle.pmb_bus.proofs.KindSets.{union_holds}
use Rattle.pmb_bus.proofs.kinds.Kinds.insert.Goals as goal

pub returns-clause-holds : goal.returns-clause-holds
returns-clause-holds c = union_holds c.args.self.now c.args.other c.insert.new.self (c.insert.ensures tt)
