use Rattle.std.proofs.Common.{◌≤◌, ◌≤ℤ◌, ◌^◌, pos, SFits, unsigned_abs, ap, arith, rules}
use Rattle.std.specs.Int.{w16}
use Rattle.std.proofs.lemmas.Int.{ints}
use Rattle.pmb_mean.proofs.Values.{denominator_small}
use Rattle.pmb_mean.proofs.denominators.direct_denominator.Goals as goal

pub returns-clause-small : goal.returns-clause-small
returns-clause-small c =
    let d = c.args.direct.now in
    let fits : SFits w16 c.m-slope.result = search rules in
    let slope : unsigned_abs d.m ≤ 2 ^ 15 = omega (arith, ints, ap unsigned_abs c.m-slope.ensures.value) in
    let scale : d.r ≤ℤ pos 9 = c.r-scale.ensures.kept.greatest in
    omega (arith, c.denominator.ensures.value, denominator_small d.m d.r slope scale)
