use Rattle.std.proofs.Common.{◌≡◌, ◌^◌, ◌++◌, sym, ap, ◌∙◌, arith}
use Rattle.std.specs.Int.{w64, trailing_zeros}
use Rattle.std.proofs.lemmas.Nat.{one_shl}
use Rattle.pmb_quantity.specs.QuantityText.{magnitude_text, places_of}
use Rattle.pmb_quantity.proofs.Places.{places_of_power}
use Rattle.pmb_quantity.proofs.text.push_magnitude.Goals as goal

pub returns-then-denominator-halvings : goal.returns-then-denominator-halvings
returns-then-denominator-halvings c =
    let text = c.args.text.now.bytes in
    let n = c.args.numerator in
    let d = c.args.denominator in
    let h = trailing_zeros w64 d in
    let is : d ≡ 2 ^ h = c.if-denominator-halvings.true ∙ one_shl h 64 (omega (arith, c.if-halvings-le-PLACES.true)) in
    let places = places_of_power h c.if-halvings-le-PLACES.true in
    c.push_halved.ensures ∙ ap (λ p. text ++ magnitude_text n (2 ^ h) p) (sym places)
    ∙ ap (λ x. text ++ magnitude_text n x (places_of x)) (sym is)
