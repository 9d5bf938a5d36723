-- The text of a rounded fraction: the sign where it is negative and not rounded to 0 (45 is the
-- minus), the whole part, and the digits after the point. For `append_decimal` and `append_units`
-- of `src/decimal.rt`. By the definition of the text, with the units cut at a power of ten.
use Rattle.std.proofs.Common.{◌≡◌, ℕ, zero, suc, ◌*◌, ◌/◌, ◌%◌, ◌^◌, ◌<◌, ◌≤◌, [], ◌∷◌, ◌++◌, ℤ, pos, negsuc, ◌<ℤ◌}
use Rattle.std.proofs.Common.{◌≤ℤ◌, unsigned_abs, refl, ap, ◌∙◌, arith}
use Rattle.std.proofs.lemmas.Int.{ints}
use Rattle.std.specs.Fmt.{decimal}
use Rattle.pmb_quantity.specs.Fraction.{Fraction}
use Rattle.pmb_quantity.specs.QuantityText.{minus, padded}
use Rattle.pmb_quantity.specs.Reading.{without_last_zeros}
use Rattle.pmb_decimal.specs.Decimal.{after_point, half_even, with_sign, nearest, magnitude_text, decimal_text}
use Rattle.pmb_decimal.specs.Decimal.{rounded_text}
use Rattle.pmb_decimal.proofs.Nearest.{magnitude_is}

-- a sign where the number is negative and not rounded to 0
pub minus-negative : (z : ℤ) (units : ℕ) → z <ℤ pos 0 → 0 < units → minus (with_sign z units) ≡ 45 ∷ []
minus-negative (pos x) units negative some = absurd (omega (arith, ints))
minus-negative (negsuc x) zero negative some = absurd (omega arith)
minus-negative (negsuc x) (suc units) negative some = refl

pub minus-none : (z : ℤ) (units : ℕ) → units ≤ 0 → minus (with_sign z units) ≡ []
minus-none (pos x) units none = refl
minus-none (negsuc x) zero none = refl
minus-none (negsuc x) (suc units) none = absurd (omega arith)

pub minus-positive : (z : ℤ) (units : ℕ) → pos 0 ≤ℤ z → minus (with_sign z units) ≡ []
minus-positive (pos x) units positive = refl
minus-positive (negsuc x) units positive = absurd (omega (arith, ints))

-- the text of a fraction: the sign, and the units
pub rounded-is : (digits : ℕ) (q : Fraction) (units : ℕ)
    → units ≡ half_even (unsigned_abs q.numerator * 10 ^ digits) q.denominator
    → rounded_text digits q ≡ minus (with_sign q.numerator units) ++ magnitude_text digits units
unfolding rounded_text decimal_text nearest
rounded-is digits q units is =
    let own = half_even (unsigned_abs q.numerator * 10 ^ digits) q.denominator in
    rw is (ap (λ n. minus (with_sign q.numerator own) ++ magnitude_text digits n) (magnitude_is q.numerator own))

-- a number of units, by its whole part and the rest
pub units-are : (digits units unit whole part count : ℕ) → unit ≡ 10 ^ digits → whole ≡ units / unit
    → part ≡ units % unit → count ≡ digits → decimal whole ++ after_point (without_last_zeros (padded count part))
    ≡ magnitude_text digits units
unfolding magnitude_text
units-are digits units unit whole part count unit_is whole_is part_is count_is =
    ap (λ w. decimal w ++ after_point (without_last_zeros (padded count part))) (whole_is ∙ ap (λ u. units / u) unit_is)
    ∙ ap (λ p. decimal (units / 10 ^ digits) ++ after_point (without_last_zeros (padded count p)))
    (part_is ∙ ap (λ u. units % u) unit_is)
    ∙ ap (λ k. decimal (units / 10 ^ digits) ++ after_point (without_last_zeros (padded k (units % 10 ^ digits))))
    count_is
