use Rattle.std.proofs.Common.{sym, ap, ◌∙◌, arith}
use Rattle.pmb_quantity.specs.Quantity.{fitted}
use Rattle.pmb_quantity.proofs.FractionLemmas.{gcd_positive, quotient_positive, IsGcd-gcd}
use Rattle.pmb_quantity.proofs.ReadingLemmas.{mixed-reduced, mixed-large_denominator}
use Rattle.pmb_quantity.proofs.parse.mixed.Goals as goal

pub nonzero_div-denominator : goal.nonzero_div-denominator
nonzero_div-denominator c = rw c.gcd-divisor.ensures (gcd_positive c.args.rest c.args.scale (omega arith))

pub nonzero_div-rest : goal.nonzero_div-rest
nonzero_div-rest c = rw c.gcd-divisor.ensures (gcd_positive c.args.rest c.args.scale (omega arith))

pub from_parts-requires : goal.from_parts-requires
from_parts-requires c = rw c.gcd-divisor.ensures
    (quotient_positive c.args.scale _ (omega arith) (IsGcd-gcd c.args.rest c.args.scale).1)

pub returns-then-denominator-ge-LIMIT : goal.returns-then-denominator-ge-LIMIT
returns-then-denominator-ge-LIMIT c =
    let large = rw c.gcd-divisor.ensures at c.if-denominator-ge-LIMIT.true in
    sym (mixed-large_denominator c.args.whole c.args.rest c.args.scale (omega arith) large)

pub returns : goal.returns
returns c =
    let is = rw c.gcd-divisor.ensures at c.from_parts.ensures in
    is ∙ ap fitted (sym (mixed-reduced c.args.whole c.args.rest c.args.scale (omega arith)))
