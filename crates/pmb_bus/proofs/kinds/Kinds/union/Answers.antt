use Rattle.pmb_bus.proofs.KindSets.{union_holds}
use Rattle.pmb_bus.proofs.kinds.Kinds.union.Goals as goal

pub returns-clause-holds : goal.returns-clause-holds
returns-clause-holds c = union_holds c.args.self c.args.other c.union.result (c.union.ensures tt)
