-- IEEE 754 half precision, binary16 (PMBus Part II revision 1.3, section 8.4.4): bit 15 is the sign,
-- bits 14:10 are the exponent field, bits 9:0 the fraction.
use Rattle.std.specs.Prelude.{◌≢◌, ℕ, ◌+◌, ◌-◌, ◌*◌, ◌/◌, ◌%◌, ◌^◌, ◌==◌, Bool, if◌then◌else◌, ℤ, pos, neg_ℤ}
use Rattle.pmb_format.specs.Coding.{Coding, IsWord}

abbrev pub exponent_field : ℕ → ℕ
exponent_field word = word / 2 ^ 10 % 2 ^ 5

abbrev pub fraction : ℕ → ℕ
fraction word = word % 2 ^ 10

abbrev pub is_negative : ℕ → Bool
is_negative word = word / 2 ^ 15 == 1

-- the value without its sign, over 2^24: the fraction where the field is 0, and else
-- (1024 + fraction) * 2^(field - 1)
abbrev pub magnitude : ℕ → ℕ
magnitude word =
    if exponent_field word == 0 then fraction word else
    (1024 + fraction word) * 2 ^ (exponent_field word - 1)

-- the value, over 2^24
abbrev pub half_numerator : ℕ → ℤ
half_numerator word = if is_negative word then neg_ℤ (pos (magnitude word)) else pos (magnitude word)

-- an infinity, or no number
abbrev pub has_no_value : ℕ → Bool
has_no_value word = exponent_field word == 31

-- Words with exponent field 31 have no value, and are no codes. Zero is written as 0000h.
abbrev pub half : Coding
half = record {
  IsCode = λ word. IsWord word × (exponent_field word ≢ 31);
  numerator = half_numerator;
  denominator = 2 ^ 24;
  IsCanonical = λ word. word ≢ 2 ^ 15;
}
