use Rattle.std.proofs.Common.{arith}
use Rattle.std.proofs.lemmas.Int.{ints}
use Rattle.pmb_linear.proofs.Linear11Lemmas.{field_5}
use Rattle.pmb_linear.proofs.linear.exponent_of.Goals as goal

pub returns-clause-greatest : goal.returns-clause-greatest
returns-clause-greatest c =
    let fits = field_5 c.args.field (omega arith) in
    omega (arith, ints, fits, c.twos_complement.ensures.value)
