use Rattle.std.proofs.Common.{◌-◌, arith}
use Rattle.std.specs.Int.Count.{count_leading_zeros}
use Rattle.pmb_note.proofs.SetBits.{highest_at, set_within}
use Rattle.pmb_note.proofs.status.highest_bit.Goals as goal

pub returns-clause-within : goal.returns-clause-within
returns-clause-within c =
    set_within c.args.value (15 - count_leading_zeros 16 c.args.value) c.args.bits
    (highest_at c.args.value (omega (arith, c.requires.some)) (omega arith)).0 c.requires.within

pub returns-clause-set : goal.returns-clause-set
returns-clause-set c = (highest_at c.args.value (omega (arith, c.requires.some)) (omega arith)).0

pub returns-clause-highest : goal.returns-clause-highest
returns-clause-highest c = (highest_at c.args.value (omega (arith, c.requires.some)) (omega arith)).1
