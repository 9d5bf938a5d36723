use Rattle.std.proofs.Common.{◌≡◌, true, false, cond, None, length, get_or, drop, sym, ap, ◌∙◌}
use Rattle.pmb_quantity.specs.Reading.{are_digits, marked}
use Rattle.pmb_quantity.proofs.DigitLemmas.{parts-no_front, parts-no_rest, parts-marked, numeral_of-parts, empty_test}
use Rattle.pmb_quantity.proofs.DigitLemmas.{empty_test_passes, rest_of, AllDigits-front, AllDigits-none}
use Rattle.pmb_quantity.proofs.numeral.numeral_of.Goals as goal

pub returns-then-is_empty-clause-value : goal.returns-then-is_empty-clause-value
returns-then-is_empty-clause-value c =
    let front = c.split_at.result.0.now in
    let rest = c.split_at.result.1.now in
    let parts = numeral_of-parts c.args.text.now c.digits_len.result front rest c.digits_len.ensures.value
    c.split_at.ensures.front c.split_at.ensures.back in
    let none = empty_test_passes (length front) (sym c.is_empty.ensures ∙ c.if-is_empty.true) in
    sym (parts ∙ parts-no_front front rest none)

pub returns-in-empty-clause-value : goal.returns-in-empty-clause-value
returns-in-empty-clause-value c =
    let front = c.split_at.result.0.now in
    let rest = c.split_at.result.1.now in
    let parts = numeral_of-parts c.args.text.now c.digits_len.result front rest c.digits_len.ensures.value
    c.split_at.ensures.front c.split_at.ensures.back in
    let some = empty_test (length front) (sym c.is_empty.ensures ∙ c.if-is_empty.false) in
    sym (parts ∙ parts-no_rest front rest some c.in-empty.len_below)

pub returns-then-is_number-clause-value : goal.returns-then-is_number-clause-value
returns-then-is_number-clause-value c =
    let front = c.split_at.result.0.now in
    let rest = c.split_at.result.1.now in
    let parts = numeral_of-parts c.args.text.now c.digits_len.result front rest c.digits_len.ensures.value
    c.split_at.ensures.front c.split_at.ensures.back in
    let some = empty_test (length front) (sym c.is_empty.ensures ∙ c.if-is_empty.false) in
    let by_mark = parts-marked front rest some c.in-len1-up.len_at_least in
    let back = rest_of rest in
    let passes : are_digits (drop 1 rest) ≡ true = ap are_digits (sym back) ∙ sym c.is_number.ensures.value
    ∙ c.if-is_number.true in
    c.marked.ensures.value ∙ ap (marked (get_or rest 0 0) front) back
    ∙ sym (parts ∙ by_mark ∙ ap (λ b. cond b (marked (get_or rest 0 0) front (drop 1 rest)) None) passes)

pub returns-else-is_number-clause-value : goal.returns-else-is_number-clause-value
returns-else-is_number-clause-value c =
    let front = c.split_at.result.0.now in
    let rest = c.split_at.result.1.now in
    let parts = numeral_of-parts c.args.text.now c.digits_len.result front rest c.digits_len.ensures.value
    c.split_at.ensures.front c.split_at.ensures.back in
    let some = empty_test (length front) (sym c.is_empty.ensures ∙ c.if-is_empty.false) in
    let by_mark = parts-marked front rest some c.in-len1-up.len_at_least in
    let back = rest_of rest in
    let fails : are_digits (drop 1 rest) ≡ false = ap are_digits (sym back) ∙ sym c.is_number.ensures.value
    ∙ c.if-is_number.false in
    sym (parts ∙ by_mark ∙ ap (λ b. cond b (marked (get_or rest 0 0) front (drop 1 rest)) None) fails)

pub marked-requires-clause-front : goal.marked-requires-clause-front
marked-requires-clause-front c =
    AllDigits-front c.args.text.now c.digits_len.result c.split_at.result.0.now c.digits_len.ensures.value
    c.split_at.ensures.front

pub returns-in-empty-clause-digits : goal.returns-in-empty-clause-digits
returns-in-empty-clause-digits c = (
  AllDigits-front c.args.text.now c.digits_len.result c.split_at.result.0.now c.digits_len.ensures.value
      c.split_at.ensures.front,
  AllDigits-none c.split_at.result.1.now c.in-empty.len_below,
)
