use Rattle.bitflags.specs.Sets.{known_from}
use Rattle.pmb_bus.proofs.KindSets.{all_holds}
use Rattle.pmb_bus.proofs.kinds.Kinds.all.Goals as goal

pub returns-clause-bits : goal.returns-clause-bits
unfolding known_from
returns-clause-bits c = c.all.ensures tt

pub returns-clause-holds : goal.returns-clause-holds
unfolding known_from
returns-clause-holds c = all_holds c.all.result (c.all.ensures tt)
