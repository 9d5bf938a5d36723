use Rattle.std.proofs.Common.{◌≡◌, ◌*◌, ◌^◌, ◌++◌, SFits, unsigned_abs, sym, ◌∙◌, ap, append_assoc, arith, rules}
use Rattle.std.specs.Int.{w64}
use Rattle.std.proofs.lemmas.Int.{ints, to_z-of_z}
use Rattle.pmb_quantity.specs.QuantityText.{minus}
use Rattle.pmb_decimal.specs.Decimal.{half_even, magnitude_text, with_sign}
use Rattle.pmb_decimal.proofs.Text.{rounded-is}
use Rattle.pmb_decimal.proofs.decimal.append_decimal.Goals as goal

pub returns-clause-text : goal.returns-clause-text
returns-clause-text g c =
    let q = c.args.quantity.now in
    let digits = c.args.digits in
    let old = c.args.out.now.items in
    let units = c.nearest_units-units.result in
    let magnitude = magnitude_text digits units in
    let num_fits : SFits w64 c.num.result = search rules in
    let num-2_fits : SFits w64 c.num-2.result = search rules in
    let absolute = simp to_z-of_z at c.unsigned_abs-numerator.ensures.value in
    let numerator_is : c.unsigned_abs-numerator.result ≡ unsigned_abs q.numerator = absolute
    ∙ ap unsigned_abs c.num.ensures.value in
    let denominator_is : c.unsigned_abs.result ≡ q.denominator =
    omega (arith, ints, c.unsigned_abs.ensures.value, c.den.ensures.value) in
    let units_are : units ≡ half_even (unsigned_abs q.numerator * 10 ^ digits) q.denominator =
    c.nearest_units-units.ensures.value ∙ ap (λ n. half_even (n * c.unit_of-unit.result) c.unsigned_abs.result)
    numerator_is ∙ ap (λ u. half_even (unsigned_abs q.numerator * u) c.unsigned_abs.result)
    c.unit_of-unit.ensures.value ∙ ap (half_even (unsigned_abs q.numerator * 10 ^ digits)) denominator_is in
    let signed = simp to_z-of_z at c.append_sign.ensures.text in
    let own_sign = signed ∙ ap (λ z. old ++ minus (with_sign z units)) c.num-2.ensures.value in
    c.append_units.ensures.text ∙ ap (λ front. front ++ magnitude) own_sign
    ∙ append_assoc old (minus (with_sign q.numerator units)) magnitude
    ∙ ap (λ text. old ++ text) (sym (rounded-is digits q units units_are))
