use Rattle.std.proofs.Common.{ℕ, ◌/◌, ◌<◌, subst, ◌≡◌, ◌*◌, ◌^◌, ◌++◌, unsigned_abs, sym, ◌∙◌, ap}
use Rattle.std.proofs.Common.{append_assoc}
use Rattle.std.proofs.lemmas.Int.{to_z-of_z}
use Rattle.pmb_quantity.specs.Fraction.{Fraction}
use Rattle.pmb_quantity.specs.QuantityText.{minus}
use Rattle.pmb_decimal.specs.Decimal.{half_even, magnitude_text, with_sign}
use Rattle.pmb_decimal.proofs.Text.{rounded-is}
use Rattle.pmb_mean.proofs.JsonNumber.{fraction_is_number}
use Rattle.pmb_mean.proofs.division.append_fraction.Goals as goal

pub returns-clause-number : goal.returns-clause-number
returns-clause-number g c =
    let n = c.args.numerator in
    let d = c.args.denominator in
    let digits = c.args.digits in
    let fits = c.ranges.numerator in
    let absolute = simp to_z-of_z at c.unsigned_abs.ensures.value in
    let unit = ap (λ k. 10 ^ k) c.count.ensures.value in
    let units_are : c.nearest_units-units.result ≡ half_even (unsigned_abs n * 10 ^ digits) d =
    c.nearest_units-units.ensures.value ∙ ap (λ k. half_even (k * 10 ^ c.count.result) d) absolute
    ∙ ap (λ p. half_even (unsigned_abs n * p) d) unit in
    let whole : c.nearest_units-units.result / 10 ^ digits < 2 ^ 62 =
    subst (λ (p : ℕ). c.nearest_units-units.result / p < 2 ^ 62) unit c.nearest_units-units.ensures.whole in
    fraction_is_number digits (record { numerator = n; denominator = d }) c.nearest_units-units.result units_are whole

pub returns-clause-text : goal.returns-clause-text
returns-clause-text g c =
    let n = c.args.numerator in
    let d = c.args.denominator in
    let digits = c.args.digits in
    let old = c.args.out.now.items in
    let units = c.nearest_units-units.result in
    let magnitude = magnitude_text digits units in
    let fraction : Fraction = record { numerator = n; denominator = d } in
    let fits = c.ranges.numerator in
    let absolute = simp to_z-of_z at c.unsigned_abs.ensures.value in
    let signed = simp to_z-of_z at c.append_sign.ensures.text in
    let units_are : units ≡ half_even (unsigned_abs n * 10 ^ digits) d =
    c.nearest_units-units.ensures.value ∙ ap (λ k. half_even (k * 10 ^ c.count.result) d) absolute
    ∙ ap (λ k. half_even (unsigned_abs n * 10 ^ k) d) c.count.ensures.value in
    c.append_units.ensures.text ∙ ap (λ front. front ++ magnitude) signed
    ∙ append_assoc old (minus (with_sign n units)) magnitude
    ∙ ap (λ text. old ++ text) (sym (rounded-is digits fraction units units_are))
