use Rattle.std.proofs.Common.{◌≡◌, ◌++◌, ◌^◌, pos, length, ap, ◌∙◌, arith}
use Rattle.std.specs.Str.Parse.{digits_value, digits_value_after}
use Rattle.pmb_quantity.specs.Fraction.{lowest_terms}
use Rattle.pmb_quantity.proofs.ReadingLemmas.{after_both, few_digits, few_in_both}
use Rattle.pmb_quantity.proofs.parse.short_value.Goals as goal

pub digits_after-requires-clause-fits : goal.digits_after-requires-clause-fits
digits_after-requires-clause-fits c = omega (arith, few_digits 18 c.args.front.now c.requires.front (omega arith))

pub digits_after-number-requires-clause-fits : goal.digits_after-number-requires-clause-fits
digits_after-number-requires-clause-fits c =
    let front = c.args.front.now in
    let back = c.args.back.now in
    let whole : digits_value_after 10 c.digits_after.result back ≡ digits_value 10 (front ++ back) =
    ap (λ n. digits_value_after 10 n back) c.digits_after.ensures ∙ after_both front back in
    omega (arith, whole, few_in_both front back c.requires.front c.requires.back c.requires.few)

pub from_decimal-requires-clause-number_fits : goal.from_decimal-requires-clause-number_fits
from_decimal-requires-clause-number_fits c =
    let front = c.args.front.now in
    let back = c.args.back.now in
    let whole : c.digits_after-number.result ≡ digits_value 10 (front ++ back) = c.digits_after-number.ensures
    ∙ ap (λ n. digits_value_after 10 n back) c.digits_after.ensures ∙ after_both front back in
    omega (arith, whole, few_in_both front back c.requires.front c.requires.back c.requires.few)

pub returns : goal.returns
returns c =
    let front = c.args.front.now in
    let back = c.args.back.now in
    let whole : c.digits_after-number.result ≡ digits_value 10 (front ++ back) = c.digits_after-number.ensures
    ∙ ap (λ n. digits_value_after 10 n back) c.digits_after.ensures ∙ after_both front back in
    c.from_decimal.ensures ∙ ap (λ n. lowest_terms (pos n) (10 ^ length back)) whole
