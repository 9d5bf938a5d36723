use Rattle.std.proofs.Common.{◌≡◌, ℕ, List, ◌++◌, SFits, unsigned_abs, sym, ◌∙◌, ap, arith, rules}
use Rattle.std.specs.Int.{w64}
use Rattle.std.proofs.lemmas.Int.{ints, to_z-of_z}
use Rattle.arrayvec.specs.ArrayString.{ArrayString}
use Rattle.pmb_quantity.specs.QuantityText.{minus, magnitude_text, places_of, spelling}
use Rattle.pmb_quantity.proofs.TextLemmas.{minus-negative, minus-positive}
use Rattle.pmb_quantity.proofs.quantity.Quantity.write_text.Goals as goal
use Rattle.pmb_quantity.proofs.quantity.Quantity.write_text.Goals.{then-num-lt0, else-num-lt0}

pub returns : goal.returns
unfolding spelling
returns c =
    let q = c.args.self.now in
    let num_fits : SFits w64 c.num.result = search rules in
    let num-2_fits : SFits w64 c.num-2.result = search rules in
    let sign : c.if-num-lt0.text.bytes ≡ minus q.numerator =
    elim c.if-num-lt0.branch [
      | then-num-lt0 w ↦
          let pushed = rw c.requires at w.push_ascii.ensures in
          ap (λ (t : ArrayString). t.bytes) w.text-is ∙ pushed
          ∙ sym (minus-negative q.numerator (omega (arith, ints, c.num.ensures.value, w.if-num-lt0.true)))
      | else-num-lt0 w ↦
          ap (λ (t : ArrayString). t.bytes) w.text-is ∙ c.requires
          ∙ sym (minus-positive q.numerator (omega (arith, ints, c.num.ensures.value, w.if-num-lt0.false)))
    ] in
    let absolute = simp to_z-of_z at c.unsigned_abs.ensures.value in
    let numerator_is : c.unsigned_abs.result ≡ unsigned_abs q.numerator = absolute
    ∙ ap unsigned_abs c.num-2.ensures.value in
    let denominator_is : c.unsigned_abs-2.result ≡ q.denominator =
    omega (arith, ints, c.unsigned_abs-2.ensures.value, c.den.ensures.value) in
    let magnitude : ℕ → ℕ → List ℕ = λ (n d : ℕ). magnitude_text n d (places_of d) in
    c.push_magnitude.ensures ∙ ap (λ front. front ++ magnitude c.unsigned_abs.result c.unsigned_abs-2.result) sign
    ∙ ap (λ n. minus q.numerator ++ magnitude n c.unsigned_abs-2.result) numerator_is
    ∙ ap (λ d. minus q.numerator ++ magnitude (unsigned_abs q.numerator) d) denominator_is
