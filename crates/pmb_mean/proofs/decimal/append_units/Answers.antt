use Rattle.std.proofs.Common.{◌^◌, ◌<◌, ◌∙◌, ◌++◌, ap, append_assoc, arith, rules}
use Rattle.std.specs.Fmt.{decimal}
use Rattle.std.proofs.lemmas.Nat.{mod_below}
use Rattle.pmb_quantity.specs.QuantityText.{padded}
use Rattle.pmb_quantity.specs.Reading.{without_last_zeros}
use Rattle.pmb_quantity.proofs.TextLemmas.{ten_positive}
use Rattle.pmb_decimal.specs.Decimal.{after_point}
use Rattle.pmb_decimal.proofs.Text.{units-are}
use Rattle.pmb_mean.proofs.decimal.append_units.Goals as goal

pub split-whole-requires-clause-positive : goal.split-whole-requires-clause-positive
split-whole-requires-clause-positive g c = omega (arith, c.requires.unit, ten_positive c.args.digits)

pub append_part-requires : goal.append_part-requires
append_part-requires g c =
    let below = mod_below c.args.units c.args.unit (omega (arith, c.requires.unit, ten_positive c.args.digits)) in
    let fits : c.split-whole.result.1 < 10 ^ c.args.digits =
    omega (arith, c.split-whole.ensures.part, below, c.requires.unit) in (
      search rules,
      (
        c.count.ensures.few,
        (
          rw c.count.ensures.value fits,
          omega (arith, c.append_whole.ensures.short, c.requires.room),
        ),
      ),
    )

pub returns-clause-text : goal.returns-clause-text
returns-clause-text g c =
    let old = c.args.out.now.items in
    let whole = decimal c.split-whole.result.0 in
    let part = after_point (without_last_zeros (padded c.count.result c.split-whole.result.1)) in
    let units = units-are c.args.digits c.args.units c.args.unit c.split-whole.result.0 c.split-whole.result.1
    c.count.result c.requires.unit c.split-whole.ensures.whole c.split-whole.ensures.part c.count.ensures.value in
    c.append_part.ensures.text ∙ ap (λ front. front ++ part) c.append_whole.ensures.text ∙ append_assoc old whole part
    ∙ ap (λ text. old ++ text) units
