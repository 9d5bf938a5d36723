use Rattle.std.proofs.Common.{◌≡◌, ◌*◌, subst, sym, arith}
use Rattle.std.proofs.lemmas.Int.{ints}
use Rattle.pmb_format.specs.Coding.{IsNearest, distance}
use Rattle.pmb_format.proofs.Rows.{row_index, row_nearest}
use Rattle.pmb_format.proofs.evenly_spaced.nearest.Goals as goal

-- the index is inside the row
pub code_at-requires-2 : goal.code_at-requires-2
code_at-requires-2 g c =
    let f = g.E.Codes.coding c.args.format.now in
    let q = c.args.quantity.now in
    let denominator_is : c.from.result ≡ q.denominator =
    omega (arith, ints, c.from.ensures, c.unsigned_abs.ensures.value, c.den.ensures.value) in
    let divisor_is : c.from.result * c.from-2.result
    ≡ q.denominator * (g.E.EvenlySpaced.row c.args.format.now).spacing = cc in
    let from_first_is : c.distance-from_first.result
    ≡ distance f q ((g.E.EvenlySpaced.row c.args.format.now).code_at 0) = cc in
    row_index f q (g.E.EvenlySpaced.row c.args.format.now) c.distance-from_first.result
    (c.from.result * c.from-2.result) c.rounded_quotient-index.result c.den.ensures.holds.positive
    c.spacing.ensures.in_order c.requires from_first_is divisor_is c.rounded_quotient-index.ensures.value

pub overflow_cast-index : goal.overflow_cast-index
overflow_cast-index g c =
    let inside = code_at-requires-2 g c in
    omega (arith, inside, c.spacing.ensures.last)

pub returns-clause-nearest : goal.returns-clause-nearest
returns-clause-nearest g c =
    let f = g.E.Codes.coding c.args.format.now in
    let q = c.args.quantity.now in
    let denominator_is : c.from.result ≡ q.denominator =
    omega (arith, ints, c.from.ensures, c.unsigned_abs.ensures.value, c.den.ensures.value) in
    let divisor_is : c.from.result * c.from-2.result
    ≡ q.denominator * (g.E.EvenlySpaced.row c.args.format.now).spacing = cc in
    let from_first_is : c.distance-from_first.result
    ≡ distance f q ((g.E.EvenlySpaced.row c.args.format.now).code_at 0) = cc in
    subst (IsNearest f q) (sym c.code_at-2.ensures)
    (row_nearest f q (g.E.EvenlySpaced.row c.args.format.now) c.distance-from_first.result
    (c.from.result * c.from-2.result) c.rounded_quotient-index.result c.den.ensures.holds.positive
    c.spacing.ensures.in_order c.requires from_first_is divisor_is c.rounded_quotient-index.ensures.value)
