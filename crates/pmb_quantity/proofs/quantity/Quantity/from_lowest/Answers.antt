use Rattle.std.proofs.Common.{pos, arith}
use Rattle.std.specs.Int.{w64}
use Rattle.std.proofs.lemmas.Int.{to_z_pos}
use Rattle.pmb_quantity.proofs.FractionLemmas.{lowest_of_gcd}
use Rattle.pmb_quantity.proofs.quantity.Quantity.from_lowest.Goals as goal

pub invariant_of-result : goal.invariant_of-result
invariant_of-result c =
    let n = c.args.numerator in
    let d = c.args.denominator in
    rw (to_z_pos w64 n (omega arith)) (record {
      numerator_fits = omega arith;
      denominator_fits = omega arith;
      positive = c.requires.positive;
      lowest = lowest_of_gcd (record { numerator = pos n; denominator = d }) c.requires.lowest;
    })
