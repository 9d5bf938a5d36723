-- The code that the encoder writes for a mantissa and a power: for `code_at` of LINEAR11. The
-- index is the mantissa and 1,024; index 1,024 is the mantissa 0, written as 0000h, and any other
-- is canonical at the least power, or where the mantissa is below -512 or above 511 (indices below
-- 512, and from 1,536).
use Rattle.std.proofs.Common.{◌≡◌, ◌≢◌, ℕ, ◌^◌, ◌<◌, ◌≤◌, ◌⊎◌, inl, inr, pos, negsuc, ◌+ℤ◌, ◌*ℤ◌, sym, ap, ◌∙◌, arith}
use Rattle.std.proofs.lemmas.Int.{ints}
use Rattle.std.proofs.Math.IntN.{zero-*ℤ}
use Rattle.pmb_linear.specs.Linear.{linear11_numerator, linear11}
use Rattle.pmb_linear.specs.machine.Fields.{Holds}
use Rattle.pmb_format.specs.Written.{IsWritten}
use Rattle.pmb_linear.proofs.Linear11Lemmas.{zero_value, least_is_canonical}

-- the mantissa 0
pub zero_at : (index b : ℕ) → index ≡ 1024 → linear11_numerator 0 ≡ (negsuc 1023 +ℤ pos index) *ℤ pos (2 ^ b)
zero_at index b is =
    let none : negsuc 1023 +ℤ pos index ≡ pos 0 = omega (arith, ints) in
    zero_value ∙ sym (ap (λ z. z *ℤ pos (2 ^ b)) none ∙ zero-*ℤ (pos (2 ^ b)))

-- any other that no smaller power holds
pub word_is_written : (k index b : ℕ) → Holds k (negsuc 1023 +ℤ pos index) b → index ≢ 1024
    → (b ≡ 0) ⊎ ((index < 512) ⊎ (1536 ≤ index)) → IsWritten linear11 k
word_is_written k index b holds some (inl least) = (
  holds.is_code,
  least_is_canonical k (negsuc 1023 +ℤ pos index) b holds (λ none. some (omega (arith, ints, none)))
      (inl least),
)
word_is_written k index b holds some (inr (inl low)) = (
  holds.is_code,
  least_is_canonical k (negsuc 1023 +ℤ pos index) b holds (λ none. some (omega (arith, ints, none)))
      (inr (inl (omega (arith, ints, low)))),
)
word_is_written k index b holds some (inr (inr high)) = (
  holds.is_code,
  least_is_canonical k (negsuc 1023 +ℤ pos index) b holds (λ none. some (omega (arith, ints, none)))
      (inr (inr (omega (arith, ints, high)))),
)
