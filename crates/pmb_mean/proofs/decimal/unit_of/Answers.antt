use Rattle.std.proofs.Common.{arith}
use Rattle.std.proofs.Math.Nat.{pow-le-pow_right}
use Rattle.pmb_quantity.proofs.TextLemmas.{ten_positive}
use Rattle.pmb_mean.proofs.decimal.unit_of.Goals as goal

pub returns-clause-positive : goal.returns-clause-positive
returns-clause-positive c = omega (arith, c.pow.ensures, c.from.ensures, ten_positive c.from.result)

pub returns-clause-small : goal.returns-clause-small
returns-clause-small c =
    omega (
      arith,
      c.pow.ensures,
      pow-le-pow_right {n = 10} (omega arith) {i = c.from.result} {j = 12}
          (omega (arith, c.from.ensures, c.count.ensures.few)),
    )
