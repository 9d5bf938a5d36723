use Rattle.std.proofs.Common.{◌≡◌, ◌∙◌, List, ◌++◌, ℕ, ap, subst, sym}
use Rattle.pmb_json_text.specs.Json.{IsNumber}
use Rattle.pmb_decimal.specs.Decimal.{rounded_text}
use Rattle.pmb_json_fields.proofs.number.nearest.Goals as goal

pub returns-clause-number : goal.returns-clause-number
returns-clause-number c =
    let text = rounded_text c.args.digits c.args.quantity.now in
    let is : c.append_decimal.new.out.items ≡ text = c.append_decimal.ensures.text
    ∙ ap (λ (old : List ℕ). old ++ text) c.new-text.ensures in
    subst IsNumber (sym is) c.nearest_is_number.ensures
