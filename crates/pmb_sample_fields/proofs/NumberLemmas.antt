-- The digits of a number are digits.
use Rattle.std.proofs.Common.{◌≡◌, ℕ, ◌==◌, ◌&&◌, Bool, true, false, Option, Some, None, List, [], ◌∷◌, ap}
use Rattle.std.proofs.Common.{refl, inl, inr, nat_lt, length, if◌then◌else◌, option_map}
use Rattle.std.proofs.lemmas.Bool.{cases_Bool}
use Rattle.pmb_words.specs.Numbers.{is_digit}
use Rattle.pmb_sample_fields.specs.Numbers.{Exponent, Number, behind_digits, behind_fraction, behind_sign, digits_at}
use Rattle.pmb_sample_fields.specs.Numbers.{exponent_of, fraction_at, has_minus, most_bytes, number_behind, number_of}
use Rattle.pmb_sample_fields.specs.Numbers.{number_with, point}
use Rattle.pmb_sample_fields.specs.Scaled.{scaled, scaled_of}
use Rattle.pmb_sample_fields.specs.machine.Digits.{by_digits}
use Rattle.pmb_sample_fields.proofs.ScaledLaw.{scaled_by_digits}
use Rattle.pmb_sample_fields.proofs.WalkLemmas.{AreDigits}

are_digits : (text : List ℕ) → AreDigits (digits_at text)
are_digits [] = tt
are_digits (byte ∷ text) = elim (cases_Bool (is_digit byte)) [
  | inl is ↦ rw is (is, are_digits text)
  | inr other ↦ rw other tt
]

are_fraction : (text : List ℕ) → AreDigits (fraction_at text)
are_fraction [] = tt
are_fraction (byte ∷ text) = elim (cases_Bool (byte == point)) [
  | inl is ↦ rw is (are_digits text)
  | inr other ↦ rw other tt
]

-- the number of a text, if it is one, has its value by its digits
abbrev HasValue : ℕ → Option Number → Type 0
HasValue places found = option_map (by_digits places) found ≡ option_map (scaled places) found

value_if : (places : ℕ) (is_negative is_none : Bool) (whole fraction : List ℕ) (exponent : Exponent) → AreDigits whole
    → AreDigits fraction → HasValue places (if is_none then None else
    Some (record { is_negative = is_negative; whole = whole; fraction = fraction; exponent = exponent }))
value_if places is_negative true whole fraction exponent first second = refl
value_if places is_negative false whole fraction exponent first second =
    ap Some (scaled_by_digits places
    (record { is_negative = is_negative; whole = whole; fraction = fraction; exponent = exponent }) first second)

value_with : (places : ℕ) (is_negative : Bool) (whole fraction : List ℕ) (exponent : Option Exponent)
    → AreDigits whole → AreDigits fraction → HasValue places (number_with is_negative whole fraction exponent)
value_with places is_negative whole fraction None first second = refl
value_with places is_negative whole fraction (Some exponent) first second =
    value_if places is_negative (length whole == 0 && length fraction == 0) whole fraction exponent first second

value_behind_sign : (places : ℕ) (is_negative : Bool) (text : List ℕ)
    → HasValue places (number_behind is_negative text)
value_behind_sign places is_negative text =
    value_with places is_negative (digits_at text) (fraction_at (behind_digits text))
    (exponent_of (behind_fraction (behind_digits text))) (are_digits text) (are_fraction (behind_digits text))

value_unless : (places : ℕ) (is_long is_negative : Bool) (text : List ℕ)
    → HasValue places (if is_long then None else number_behind is_negative text)
value_unless places true is_negative text = refl
value_unless places false is_negative text = value_behind_sign places is_negative text

pub value_of_text : (places : ℕ) (text : List ℕ)
    → option_map (by_digits places) (number_of text) ≡ scaled_of places text
value_of_text places text =
    value_unless places (nat_lt most_bytes (length text)) (has_minus text) (behind_sign text)
