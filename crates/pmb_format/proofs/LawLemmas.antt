-- A code's own value is nearest to that code, so that decoding and encoding keep values. For the
-- laws `ulinear16_keeps_values`, `linear11_keeps_values` and their like in pmb_value. At no
-- distance from a value is only a code with that value.
use Rattle.std.proofs.Common.{◌≡◌, ℕ, ◌<◌, ◌≤◌, pos, sym, ◌∙◌, arith}
use Rattle.std.proofs.lemmas.Int.{ints}
use Rattle.std.proofs.Math.IntN.{*ℤ_comm}
use Rattle.pmb_quantity.proofs.LawLemmas.{lowest_terms-same, lowest_terms-positive}
use Rattle.pmb_format.specs.Coding.{Coding, value_of, scaled, scaled_code, distance}
use Rattle.pmb_format.specs.Laws.{KeepsValues}
use Rattle.pmb_quantity.proofs.Scaling.{unscale_eq}

-- the numbers of a code are at no distance from its value
no_distance : (f : Coding) (c : ℕ) → distance f (value_of f c) c ≡ 0
no_distance f c =
    let same = lowest_terms-same (f.numerator c) f.denominator in
    omega (arith, ints)

pub keeps_values : (f : Coding) → 0 < f.denominator → KeepsValues f
keeps_values f positive code nearest is_code is_nearest =
    let q = value_of f code in
    let at_most : distance f q nearest ≤ distance f q code = is_nearest.none_nearer code is_code in
    let none : distance f q nearest ≡ 0 = omega (arith, at_most, no_distance f code) in
    let same : scaled f q ≡ scaled_code f q nearest = omega (arith, ints, none) in
    let own : scaled f q ≡ scaled_code f q code = lowest_terms-same (f.numerator code) f.denominator in
    unscale_eq (f.numerator nearest) (f.numerator code) q.denominator
    (lowest_terms-positive (f.numerator code) f.denominator positive)
    (*ℤ_comm (f.numerator nearest) (pos q.denominator) ∙ sym same ∙ own
    ∙ *ℤ_comm (pos q.denominator) (f.numerator code))
