use Rattle.std.proofs.Common.{◌*◌, ◌/◌, ◌%◌, ◌^◌, sym, ap, ◌∙◌}
use Rattle.std.proofs.lemmas.Nat.{mul-pow}
use Rattle.pmb_quantity.proofs.Tens.{shifted_fives}
use Rattle.pmb_quantity.proofs.text.unit_of.Goals as goal

pub returns-then-places-le18 : goal.returns-then-places-le18
returns-then-places-le18 c =
    let p = c.args.places in
    let d = c.args.denominator in
    c.from.ensures ∙ ap (λ x. x * 2 ^ p % 2 ^ 64 / d) c.power_of_five.ensures
    ∙ ap (λ x. x / d) (shifted_fives p p c.if-places-le18.true c.if-places-le18.true ∙ sym (mul-pow 5 2 p))
