use Rattle.std.proofs.Common.{arith}
use Rattle.pmb_note.proofs.SetBits.{one_at}
use Rattle.pmb_note.proofs.status.without.Goals as goal

pub returns-clause-others : goal.returns-clause-others
returns-clause-others c = let one = one_at c.args.bit c.requires.few in omega (arith, one, c.requires.set)

pub returns-clause-within : goal.returns-clause-within
returns-clause-within c = let one = one_at c.args.bit c.requires.few in
    omega (arith, one, c.requires.set, c.requires.highest)
