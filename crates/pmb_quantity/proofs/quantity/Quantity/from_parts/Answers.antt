use Rattle.std.proofs.Common.{◌/◌, sym, arith}
use Rattle.std.specs.Int.{w64}
use Rattle.std.proofs.lemmas.Int.{to_z_pos}
use Rattle.pmb_quantity.proofs.FractionLemmas.{gcd_positive, IsQuantity-quotients}
use Rattle.pmb_quantity.proofs.Fitted.{lowest-fits}
use Rattle.pmb_quantity.proofs.quantity.Quantity.from_parts.Goals as goal

pub nonzero_div-numerator : goal.nonzero_div-numerator
nonzero_div-numerator c = rw c.gcd-divisor.ensures (gcd_positive c.args.numerator c.args.denominator c.requires)

pub nonzero_div-denominator : goal.nonzero_div-denominator
nonzero_div-denominator c = rw c.gcd-divisor.ensures (gcd_positive c.args.numerator c.args.denominator c.requires)

pub invariant_of-result : goal.invariant_of-result
invariant_of-result c =
    let n = c.args.numerator in
    let d = c.args.denominator in
    let n_fits = rw c.gcd-divisor.ensures at c.if-numerator-ge-LIMIT.false in
    let d_fits = rw c.gcd-divisor.ensures at c.if-denominator-ge-LIMIT.false in
    rw (to_z_pos w64 (n / c.gcd-divisor.result) (omega arith), c.gcd-divisor.ensures)
    (IsQuantity-quotients n d c.requires n_fits d_fits)

pub returns : goal.returns
returns c =
    let n = c.args.numerator in
    let d = c.args.denominator in
    let n_fits = rw c.gcd-divisor.ensures at c.if-numerator-ge-LIMIT.false in
    let d_fits = rw c.gcd-divisor.ensures at c.if-denominator-ge-LIMIT.false in
    rw (to_z_pos w64 (n / c.gcd-divisor.result) (omega arith), c.gcd-divisor.ensures)
    (sym (lowest-fits n d n_fits d_fits))
