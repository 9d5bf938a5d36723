use Rattle.std.proofs.Common.{◌≡◌, SFits, ℤ, pos, neg_ℤ, ◌-ℤ◌, of_z, to_z, sym, ap, ◌∙◌, subst, arith, rules}
use Rattle.std.specs.Int.{w64}
use Rattle.std.proofs.lemmas.Int.{ints, to_z-of_z}
use Rattle.std.proofs.Math.IntN.{+ℤ_idl}
use Rattle.pmb_quantity.specs.Fraction.{Fraction, IsQuantity}
use Rattle.pmb_quantity.proofs.Quotient.{IsQuantity-negative}
use Rattle.pmb_quantity.proofs.quantity.Quantity.negated.Goals as goal

pub invariant_of-result : goal.invariant_of-result
invariant_of-result c =
    let n = c.self.inside.numerator in
    let d = c.self.inside.denominator in
    let fits : SFits w64 n = search rules in
    let small = c.self.invariant.numerator_fits in
    let negative_fits : SFits w64 (neg_ℤ n) = omega (arith, ints, small) in
    let inside : Fraction = record { numerator = n; denominator = d } in
    let same : to_z w64 (of_z w64 (pos 0 -ℤ to_z w64 (of_z w64 n))) ≡ neg_ℤ n =
    ap (λ z. to_z w64 (of_z w64 (pos 0 -ℤ z))) (to_z-of_z w64 n fits)
    ∙ ap (λ z. to_z w64 (of_z w64 z)) (+ℤ_idl (neg_ℤ n)) ∙ to_z-of_z w64 (neg_ℤ n) negative_fits in
    subst (λ (z : ℤ). IsQuantity (record { numerator = z; denominator = d })) (sym same)
    (IsQuantity-negative inside c.self.invariant)
