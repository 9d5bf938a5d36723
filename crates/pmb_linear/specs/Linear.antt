-- LINEAR11 (PMBus Part II revision 1.3, section 7) and the linear formats of VOUT (section 8).
use Rattle.std.specs.Prelude.{◌≡◌, ◌≢◌, ℕ, ◌/◌, ◌%◌, ◌^◌, ℤ, pos, ◌+ℤ◌, ◌*ℤ◌, ◌≤ℤ◌, unsigned_abs}
use Rattle.pmb_format.specs.Coding.{Coding, IsWord, IsAnyCode}
pub use Rattle.pmb_coefficients.specs.Exponent.{IsExponent}
unfoldable pub use Rattle.pmb_format.specs.Words.{twos_complement}

-- 2^exponent, over 2^16: no exponent is below -16
abbrev pub power : ℤ → ℕ
power exponent = 2 ^ unsigned_abs (exponent +ℤ pos 16)

-- bits 15:11 of a LINEAR11 word
abbrev pub exponent : ℕ → ℤ
exponent code = twos_complement 5 (code / 2 ^ 11)

-- bits 10:0 of a LINEAR11 word
abbrev pub mantissa : ℕ → ℤ
mantissa code = twos_complement 11 (code % 2 ^ 11)

-- mantissa * 2^exponent, over 2^16
abbrev pub linear11_numerator : ℕ → ℤ
linear11_numerator code = mantissa code *ℤ pos (power (exponent code))

-- Zero is written as 0000h. No code of the same value has a smaller exponent than a canonical one.
pub record IsCanonicalLinear11 (code : ℕ) : Type 0 where
  pub zero : linear11_numerator code ≡ pos 0 → code ≡ 0
  pub least_exponent : linear11_numerator code ≢ pos 0 → (k : ℕ) → IsWord k
      → linear11_numerator k ≡ linear11_numerator code → exponent code ≤ℤ exponent k

abbrev pub linear11 : Coding
linear11 = record {
  IsCode = IsWord;
  numerator = linear11_numerator;
  denominator = 2 ^ 16;
  IsCanonical =
      IsCanonicalLinear11;
}

-- LINEAR11 with one exponent: the words with that exponent. Each is canonical, zero's too. Any other
-- word has LINEAR11's value, and is no code.
abbrev pub linear11_fixed : ℤ → Coding
linear11_fixed fixed = record {
  IsCode = λ code. IsWord code × (exponent code ≡ fixed);
  numerator = linear11_numerator;
  denominator = 2 ^ 16;
  IsCanonical = IsAnyCode;
}

-- the number of a word * 2^exponent, over 2^16
abbrev pub linear16 : (ℕ → ℤ) → ℤ → Coding
linear16 number exponent = record {
  IsCode = IsWord;
  numerator = λ code. number code *ℤ pos (power exponent);
  denominator = 2 ^ 16;
  IsCanonical = IsAnyCode;
}

-- ULINEAR16: a word counts as it stands
abbrev pub ulinear16 : ℤ → Coding
ulinear16 = linear16 (λ code. pos code)

-- SLINEAR16: a word counts in two's complement
abbrev pub slinear16 : ℤ → Coding
slinear16 = linear16 (twos_complement 16)
