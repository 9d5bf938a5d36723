use Rattle.std.proofs.Common.{pos, ◌+◌, ◌*◌, ◌^◌, length, sym, ap, ◌∙◌, arith}
use Rattle.std.specs.Str.Parse.{digits_value}
use Rattle.std.proofs.lemmas.Int.Digits.{digits_value-lt}
use Rattle.pmb_quantity.specs.Fraction.{lowest_terms}
use Rattle.pmb_quantity.specs.Quantity.{fitted}
use Rattle.pmb_quantity.proofs.TextLemmas.{ten_positive}
use Rattle.pmb_quantity.proofs.ReadingLemmas.{none_below, some_below, mixed-large_whole}
use Rattle.pmb_quantity.proofs.parse.long_value.Goals as goal

pub returns-in_default : goal.returns-in_default
returns-in_default c =
    let back = c.args.back.now in
    let large = none_below (2 ^ 62) (digits_value 10 c.args.front.now) c.in_default.ensures in
    sym (mixed-large_whole (digits_value 10 c.args.front.now) (digits_value 10 back) (10 ^ length back)
    (ten_positive (length back)) large)

-- so many digits are below that power of ten
pub unreachable-requires : goal.unreachable-requires
unreachable-requires c =
    let back = c.args.back.now in
    let large = none_below c.power_of_ten-scale.result (digits_value 10 back) c.in_default-number.ensures in
    omega (arith, c.power_of_ten-scale.ensures.value, digits_value-lt 10 back c.requires.back)

pub mixed-requires : goal.mixed-requires
mixed-requires c =
    let back = c.args.back.now in
    let whole = some_below (2 ^ 62) (digits_value 10 c.args.front.now) c.in-Some.whole c.in-Some.ensures in
    let rest = some_below c.power_of_ten-scale.result (digits_value 10 back) c.in-Some-number.rest
    c.in-Some-number.ensures in
    record { whole_fits = omega (arith, whole); rest_fits = omega (arith, rest) }

pub returns : goal.returns
returns c =
    let back = c.args.back.now in
    let whole = some_below (2 ^ 62) (digits_value 10 c.args.front.now) c.in-Some.whole c.in-Some.ensures in
    let rest = some_below c.power_of_ten-scale.result (digits_value 10 back) c.in-Some-number.rest
    c.in-Some-number.ensures in
    c.mixed.ensures ∙ ap (λ w. fitted (lowest_terms (pos (w * c.power_of_ten-scale.result + c.in-Some-number.rest))
    c.power_of_ten-scale.result)) whole.0 ∙ ap
    (λ r. fitted (lowest_terms (pos (digits_value 10 c.args.front.now * c.power_of_ten-scale.result + r))
    c.power_of_ten-scale.result)) rest.0 ∙ ap
    (λ p. fitted (lowest_terms (pos (digits_value 10 c.args.front.now * p + digits_value 10 back)) p))
    c.power_of_ten-scale.ensures.value
