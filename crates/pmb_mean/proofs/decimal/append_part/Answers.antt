use Rattle.std.proofs.Common.{◌∙◌, [], ◌∷◌, ◌++◌, sym, ap, append_assoc, arith}
use Rattle.std.proofs.lemmas.List.{append-nil}
use Rattle.pmb_quantity.specs.QuantityText.{padded}
use Rattle.pmb_quantity.specs.Reading.{without_last_zeros}
use Rattle.pmb_decimal.specs.Decimal.{after_point}
use Rattle.pmb_decimal.proofs.DigitLemmas.{after_point-some, none_of_zero, some_of_other}
use Rattle.pmb_mean.proofs.decimal.append_part.Goals as goal

pub returns-then-part-gt0-clause-text : goal.returns-then-part-gt0-clause-text
returns-then-part-gt0-clause-text g c =
    let old = c.args.out.now.items in
    let kept = without_last_zeros (padded c.args.places c.args.part) in
    let some = some_of_other c.args.places c.args.part (omega arith) c.requires.below in
    c.append_digits.ensures.text ∙ ap (λ front. front ++ kept) c.push.ensures.items ∙ append_assoc old (46 ∷ []) kept
    ∙ ap (λ text. old ++ text) (sym (after_point-some kept some))

pub returns-else-part-gt0-clause-text : goal.returns-else-part-gt0-clause-text
returns-else-part-gt0-clause-text g c =
    let old = c.args.out.now.items in
    sym (ap (λ ds. old ++ after_point ds) (none_of_zero c.args.places c.args.part (omega arith)) ∙ append-nil old)
