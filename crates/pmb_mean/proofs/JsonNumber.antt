-- The text of a fraction whose whole part has fewer than 62 bits is a number of JSON: for
-- `append_fraction`.
use Rattle.std.proofs.Common.{◌≡◌, ℕ, ◌*◌, ◌/◌, ◌^◌, ◌<◌, unsigned_abs, subst, ap, arith}
use Rattle.pmb_json_text.specs.Json.{IsNumber}
use Rattle.pmb_quantity.specs.Fraction.{Fraction}
use Rattle.pmb_decimal.specs.Decimal.{decimal_text, half_even, nearest, rounded_text, with_sign}
use Rattle.pmb_decimal.proofs.Nearest.{magnitude_is}
use Rattle.pmb_decimal.proofs.Numbers.{decimal_is_number}

pub fraction_is_number : (digits : ℕ) (q : Fraction) (units : ℕ)
    → units ≡ half_even (unsigned_abs q.numerator * 10 ^ digits) q.denominator → units / 10 ^ digits < 2 ^ 62
    → IsNumber (rounded_text digits q)
unfolding rounded_text nearest
fraction_is_number digits q units is small =
    let whole = ap (λ n. n / 10 ^ digits) (magnitude_is q.numerator units) in
    subst (λ (n : ℕ). IsNumber (decimal_text digits (with_sign q.numerator n))) is
    (decimal_is_number digits (with_sign q.numerator units) (omega (arith, whole, small)))
