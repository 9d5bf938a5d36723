use Rattle.std.proofs.Common.{pos, ◌^◌, inl, inr, sym, ap, ◌∙◌, arith}
use Rattle.std.specs.Str.Parse.{digits_value}
use Rattle.pmb_quantity.specs.Fraction.{lowest_terms}
use Rattle.pmb_quantity.specs.Quantity.{fitted}
use Rattle.pmb_quantity.proofs.ReadingLemmas.{none_below, some_below, slash-zero, slash-large, slash-is}
use Rattle.pmb_quantity.proofs.parse.slash_value.Goals as goal

-- a denominator that is too large is not 0
pub returns-in_default : goal.returns-in_default
returns-in_default c =
    let large = none_below (2 ^ 63) (digits_value 10 c.args.back.now) c.in_default.ensures in
    sym (slash-large c.args.front.now c.args.back.now (λ none. omega arith) (inr large))

pub returns-then-denominator-eq0 : goal.returns-then-denominator-eq0
returns-then-denominator-eq0 c =
    let is = some_below (2 ^ 63) (digits_value 10 c.args.back.now) c.in-Some.denominator c.in-Some.ensures in
    sym (slash-zero c.args.front.now c.args.back.now (sym is.0 ∙ c.if-denominator-eq0.true))

pub returns-in_default-number : goal.returns-in_default-number
returns-in_default-number c =
    let is = some_below (2 ^ 63) (digits_value 10 c.args.back.now) c.in-Some.denominator c.in-Some.ensures in
    let large = none_below (2 ^ 63) (digits_value 10 c.args.front.now) c.in_default-number.ensures in
    sym (slash-large c.args.front.now c.args.back.now (λ none. c.if-denominator-eq0.false (is.0 ∙ none)) (inl large))

pub returns : goal.returns
returns c =
    let bottom = some_below (2 ^ 63) (digits_value 10 c.args.back.now) c.in-Some.denominator c.in-Some.ensures in
    let top = some_below (2 ^ 63) (digits_value 10 c.args.front.now) c.in-Some-number.numerator
    c.in-Some-number.ensures in
    c.from_words.ensures ∙ ap (λ n. fitted (lowest_terms (pos n) c.in-Some.denominator)) top.0
    ∙ ap (λ d. fitted (lowest_terms (pos (digits_value 10 c.args.front.now)) d)) bottom.0
    ∙ sym (slash-is c.args.front.now c.args.back.now (λ none. c.if-denominator-eq0.false (bottom.0 ∙ none)) top.1
    bottom.1)
