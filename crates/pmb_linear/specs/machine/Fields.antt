-- The fields of a LINEAR11 word, and which power of two holds a quantity.
use Rattle.std.specs.Prelude.{◌≡◌, ℕ, ◌+◌, ◌*◌, ◌%◌, ◌^◌, ◌⊎◌, ℤ, pos, negsuc, neg_ℤ, ◌-ℤ◌, ◌*ℤ◌, ◌<ℤ◌, ◌≤ℤ◌}
use Rattle.pmb_format.specs.Coding.{IsWord}
use Rattle.pmb_linear.specs.Linear.{exponent, mantissa, linear11_numerator}

-- a mantissa in range
abbrev pub IsMantissa : ℤ → Type 0
IsMantissa y = (negsuc 1023 ≤ℤ y) × (y ≤ℤ pos 1023)

-- what the two fields of a code hold: a mantissa, and an exponent over -16
pub record Holds (code : ℕ) (y : ℤ) (b : ℕ) : Type 0 where
  pub is_code : IsWord code
  pub mantissa_is : mantissa code ≡ y
  pub exponent_is : exponent code ≡ pos b -ℤ pos 16
  pub value_is : linear11_numerator code ≡ y *ℤ pos (2 ^ b)

-- so many spacings reach from -1024 of them to less than 1024
pub record Reaches (target : ℤ) (spacing : ℕ) : Type 0 where
  pub from_least : neg_ℤ (pos (1024 * spacing)) ≤ℤ target
  pub below : target <ℤ pos (1024 * spacing)

-- .. or it is too far on one side
abbrev pub IsFarther : ℤ → ℕ → Type 0
IsFarther target spacing = (target <ℤ neg_ℤ (pos (1024 * spacing))) ⊎ (pos (1024 * spacing) ≤ℤ target)

-- the word of the mantissa index - 1024, at an exponent over -16
abbrev pub word_at : ℕ → ℕ → ℕ
word_at power index = (power + 16) % 2 ^ 5 * 2 ^ 11 + (index + 1024) % 2 ^ 11
