-- What is written is a number of JSON: a sign, a whole number, a fraction. For the law
-- `decimals_are_numbers`, and `nearest_is_number` of `pmb_json_fields`. The whole part is 0 or
-- begins above it (48 is the digit 0), and what is after the point are digits.
use Rattle.std.proofs.Common.{◌≡◌, ℕ, ◌*◌, ◌/◌, ◌%◌, ◌^◌, ◌+◌, ◌<◌, inl, inr, List, [], ◌∷◌, ◌++◌, get_or, ℤ, pos}
use Rattle.std.proofs.Common.{negsuc, unsigned_abs, refl, sym, ap, ◌∙◌, subst, arith}
use Rattle.std.specs.Fmt.{decimal}
use Rattle.std.specs.Str.Parse.{AllDigits}
use Rattle.std.proofs.lemmas.Bool.{cases_lt}
use Rattle.std.proofs.lemmas.Fmt.{decimal_digit, decimal_is_IsNumeral, first_decimal}
use Rattle.std.proofs.lemmas.List.{append-nil}
use Rattle.pmb_json_text.specs.Json.{AreDigits, IsMinus, IsWhole, IsFraction, IsNumber}
use Rattle.pmb_quantity.specs.Fraction.{Fraction, IsQuantity}
use Rattle.pmb_quantity.specs.QuantityText.{minus, padded}
use Rattle.pmb_quantity.specs.Reading.{without_last_zeros}
use Rattle.pmb_quantity.proofs.DigitLemmas.{test_of_digit}
use Rattle.pmb_quantity.proofs.TextLemmas.{ten_positive}
use Rattle.pmb_decimal.specs.Decimal.{after_point, half_even, with_sign, nearest, magnitude_text, decimal_text}
use Rattle.pmb_decimal.specs.Decimal.{rounded_text}
use Rattle.pmb_decimal.proofs.DigitLemmas.{AllDigits-part}
use Rattle.pmb_decimal.proofs.HalfEven.{whole_small}
use Rattle.pmb_decimal.proofs.Nearest.{magnitude_is}

-- digits by their values and by the test
digits_pass : (ds : List ℕ) → AllDigits 10 ds → AreDigits ds
digits_pass [] digits = tt
digits_pass (d ∷ ds) digits = (test_of_digit d digits.0, digits_pass ds digits.1)

-- digits that begin above 0
whole_of : (ds : List ℕ) → AllDigits 10 ds → 48 < get_or ds 0 0 → IsWhole ds
whole_of [] digits above = absurd (let wrong : 48 < 0 = above in omega arith)
whole_of (d ∷ ds) digits above =
    let begins : 48 < d = above in
    inr (λ same. absurd (let is : d ≡ 48 = same in omega arith), digits_pass (d ∷ ds) digits)

-- a whole number is 0, or begins above it
pub decimal_is_whole : (n : ℕ) → n < 2 ^ 64 → IsWhole (decimal n)
decimal_is_whole n small =
    elim (cases_lt 0 n) [
      | inl some ↦ whole_of (decimal n) (decimal_is_IsNumeral n small).0.1 (first_decimal n some small)
      | inr none ↦ (let digit : 48 + n ≡ 48 = omega arith in
          subst IsWhole (sym (decimal_digit n (omega arith) ∙ ap (λ d. d ∷ []) digit)) (inl refl))
    ]

fraction_is : (ds : List ℕ) → AllDigits 10 ds → IsFraction (after_point ds)
fraction_is [] digits = inl refl
fraction_is (d ∷ ds) digits = inr (d ∷ ds, digits_pass (d ∷ ds) digits, refl)

sign_is : (z : ℤ) → IsMinus (minus z)
sign_is (pos n) = inl refl
sign_is (negsuc n) = inr refl

-- units of 10^-digits
pub decimal_is_number : (digits : ℕ) (n : ℤ) → unsigned_abs n / 10 ^ digits < 2 ^ 64 → IsNumber (decimal_text digits n)
unfolding decimal_text magnitude_text
decimal_is_number digits n small =
    let whole = decimal (unsigned_abs n / 10 ^ digits) in
    let kept = without_last_zeros (padded digits (unsigned_abs n % 10 ^ digits)) in
    record {
      minus = minus n;
      whole = whole;
      fraction = after_point kept;
      exponent = [];
      parts = ap (λ part. minus n ++ (whole ++ part)) (sym (append-nil (after_point kept)));
      is_minus = sign_is n;
      is_whole = decimal_is_whole (unsigned_abs n / 10 ^ digits) small;
      is_fraction = fraction_is kept (AllDigits-part digits (unsigned_abs n % 10 ^ digits));
      is_exponent = inl refl;
    }

pub rounded_is_number : (digits : ℕ) (q : Fraction) → IsQuantity q → IsNumber (rounded_text digits q)
unfolding rounded_text nearest
rounded_is_number digits q quantity =
    let units = half_even (unsigned_abs q.numerator * 10 ^ digits) q.denominator in
    let small = whole_small (unsigned_abs q.numerator) q.denominator (10 ^ digits) quantity.positive
    (ten_positive digits) quantity.numerator_fits in
    let same : unsigned_abs (with_sign q.numerator units) ≡ units = magnitude_is q.numerator units in
    let whole : unsigned_abs (with_sign q.numerator units) / 10 ^ digits ≡ units / 10 ^ digits =
    ap (λ n. n / 10 ^ digits) same in
    decimal_is_number digits (with_sign q.numerator units) (omega (arith, small, whole))
