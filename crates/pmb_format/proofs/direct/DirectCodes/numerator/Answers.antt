use Rattle.std.proofs.Common.{◌≡◌, ◌≤ℤ◌, pos, negsuc, refl, ◌∙◌, sym, SFits, ◌-ℤ◌, neg_ℤ, arith, rules}
use Rattle.std.specs.Int.{w8, w16, w32, w64}
use Rattle.std.proofs.lemmas.Int.{ints, to_z-of_z}
use Rattle.std.proofs.Math.IntN.{+ℤ_idl}
use Rattle.pmb_coefficients.specs.Coefficients.{Coefficients}
use Rattle.pmb_format.proofs.DirectLemmas.{numerator_is}
use Rattle.pmb_format.proofs.direct.DirectCodes.numerator.Goals as goal

pub with_sign_of-requires-clause-number_is_small :
    goal.with_sign_of-requires-clause-number_is_small
with_sign_of-requires-clause-number_is_small c =
    omega (arith, ints, c.times-word.ensures.small, c.times-offset.ensures.small)

pub returns-clause-value : goal.returns-clause-value
returns-clause-value c =
    let word_fits : SFits w64 c.times-word.result = search rules in
    let offset_fits : SFits w64 c.times-offset.result = search rules in
    let result_fits : SFits w64 c.with_sign_of.result = search rules in
    let difference_fits : SFits w64 (c.times-word.result -ℤ c.times-offset.result) =
    omega (arith, ints, c.times-word.ensures.small, c.times-offset.ensures.small) in
    let m_fits : SFits w16 c.m.result = search rules in
    let b_fits : SFits w16 c.b.result = search rules in
    let r_fits : SFits w8 c.r.result = search rules in
    let least : negsuc 8 ≤ℤ c.r.result = rw c.r.ensures.value c.r.ensures.kept.least in
    let greatest : c.r.result ≤ℤ pos 9 = rw c.r.ensures.value c.r.ensures.kept.greatest in
    let minus_r_fits : SFits w8 (neg_ℤ c.r.result) = omega (arith, ints, least, greatest) in
    let number_fits : SFits w32 c.number_of.result = search rules in
    let from_fits : SFits w32 c.from.result = search rules in
    let unsigned = c.args.self.now.unsigned in
    let inside : Coefficients = record { m = c.m.result; b = c.b.result; r = c.r.result; unsigned = unsigned } in
    let same : inside ≡ c.args.self.now = rw (c.m.ensures.value, c.b.ensures.value, c.r.ensures.value) refl in
    let one_r : c.r-2.result ≡ c.r.result = c.r-2.ensures.value ∙ sym c.r.ensures.value in
    let value = simp to_z-of_z at c.with_sign_of.ensures.value in
    let word = simp to_z-of_z at c.times-word.ensures.value in
    let offset = simp to_z-of_z at c.times-offset.ensures.value in
    let down = simp (to_z-of_z, +ℤ_idl) at c.ten_to.ensures.value in
    let up = simp (to_z-of_z, one_r) at c.ten_to-2.ensures.value in
    let from = simp to_z-of_z at c.from.ensures in
    rw to_z-of_z (numerator_is c.args.code c.args.self.now inside c.number_of.result c.times-word.result
    c.from.result c.times-offset.result c.with_sign_of.result c.ten_to.result c.ten_to-2.result same
    c.number_of.ensures.value down word from up offset value)
