use Rattle.std.proofs.Common.{SFits, rules}
use Rattle.std.specs.Int.{w128}
use Rattle.std.proofs.lemmas.Int.{to_z-of_z}
use Rattle.pmb_format.proofs.Range.{below_by_least}
use Rattle.pmb_format.specs.Written.{HasCode}
use Rattle.pmb_format.proofs.codes.is_below.Goals as goal

pub returns-clause-value : goal.returns-clause-value
returns-clause-value g c =
    let quantity_fits : SFits w128 c.scaled.result = search rules in
    let value_fits : SFits w128 c.scaled_code.result = search rules in
    rw (to_z-of_z w128 c.scaled.result quantity_fits, to_z-of_z w128 c.scaled_code.result value_fits)
    (below_by_least (g.C.Codes.coding c.args.codes.now) c.args.quantity.now c.least.result c.scaled.result
    c.scaled_code.result c.scaled.ensures.positive c.least.ensures c.scaled.ensures.value c.scaled_code.ensures.value)

pub returns-clause-some_code : goal.returns-clause-some_code
unfolding HasCode
returns-clause-some_code g c = (c.least.result, c.least.ensures.is_code)
