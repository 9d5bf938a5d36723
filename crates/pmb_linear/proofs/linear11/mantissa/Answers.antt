use Rattle.std.proofs.Common.{ap, arith}
use Rattle.std.proofs.lemmas.Int.{ints}
use Rattle.std.proofs.lemmas.Nat.{and_mask}
use Rattle.pmb_format.specs.Words.{twos_complement}
use Rattle.pmb_linear.proofs.Linear11Lemmas.{mantissa_fits}
use Rattle.pmb_linear.proofs.linear11.mantissa.Goals as goal

pub returns-clause-greatest : goal.returns-clause-greatest
returns-clause-greatest c =
    let fits = mantissa_fits c.args.code in
    let field = ap (twos_complement 11) (and_mask c.args.code 11) in
    omega (arith, ints, fits, field, c.twos_complement.ensures.value)
