use Rattle.std.proofs.Common.{◌≡◌, ◌+◌, ◌-◌, ◌*◌, ◌/◌, ◌%◌, ◌^◌, ap, ◌∙◌, arith}
use Rattle.pmb_quantity.proofs.TextLemmas.{ten_positive}
use Rattle.pmb_decimal.specs.Decimal.{half_even}
use Rattle.pmb_mean.proofs.LongDivision.{divided_next, units_small, whole_below}
use Rattle.pmb_mean.proofs.division.nearest_units.Goals as goal

pub overflow_mul-units : goal.overflow_mul-units
overflow_mul-units c =
    let small = units_small c.args.numerator c.args.denominator c.digits.place c.digits.units c.digits.rest
    (omega arith) c.digits.invariant in
    omega (arith, small)

pub overflow_add-units : goal.overflow_add-units
overflow_add-units c =
    let n = c.args.numerator in
    let d = c.args.denominator in
    let next = divided_next n d c.digits.place c.digits.units c.digits.rest c.requires.some c.digits.invariant in
    let small = units_small n d (c.digits.place + 1) (c.digits.units * 10 + c.digits.rest * 10 / d)
    (c.digits.rest * 10 % d) (omega arith) next in
    omega (arith, small)

pub digits-preserved : goal.digits-preserved
digits-preserved c = divided_next c.args.numerator c.args.denominator c.digits.place c.digits.units c.digits.rest
    c.requires.some c.digits.invariant

pub rounded-requires-clause-small : goal.rounded-requires-clause-small
rounded-requires-clause-small c =
    let small = units_small c.args.numerator c.args.denominator c.digits.place c.digits.units c.digits.rest
    (omega arith) c.digits.invariant in
    omega (arith, small)

pub returns-clause-whole : goal.returns-clause-whole
returns-clause-whole c =
    let n = c.args.numerator in
    let d = c.args.denominator in
    let unit = 10 ^ c.args.digits in
    let at_end : c.digits.place ≡ c.args.digits = omega arith in
    let value : c.rounded.result ≡ half_even (n * unit) d =
    c.rounded.ensures ∙ ap (λ k. half_even k d) (c.digits.invariant.split ∙ ap (λ p. n * 10 ^ p) at_end) in
    let whole = whole_below n d unit (2 ^ 62 - 1) c.requires.some (ten_positive c.args.digits) c.requires.small in
    omega (arith, ap (λ k. k / unit) value, whole)
