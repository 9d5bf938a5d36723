-- Words of two bytes as numbers, unsigned or of two's complement: for `twos_complement` and the
-- codes of evenly spaced formats. The lower half of the fields are themselves, the upper half
-- negative; in the order of their numbers they count up one by one.
use Rattle.std.proofs.Common.{◌≡◌, ℕ, ◌-◌, ◌^◌, ◌<◌, ◌≤◌, inl, inr, pos, negsuc, ◌+ℤ◌, ◌-ℤ◌, refl, sym, arith}
use Rattle.std.proofs.lemmas.Int.{ints}
use Rattle.std.proofs.lemmas.Bool.{cases_lt, cond_below, cond_above}
use Rattle.pmb_format.specs.Words.{CountsUp, signed_at, twos_complement}

-- the lower half of the fields are themselves
pub complement_low : (bits field : ℕ) → field < 2 ^ (bits - 1) → twos_complement bits field ≡ pos field
unfolding twos_complement
complement_low bits field low = sym (cond_below field (2 ^ (bits - 1)) (pos field) (pos field -ℤ pos (2 ^ bits)) low)

-- the upper half are negative
pub complement_high : (bits field : ℕ) → 2 ^ (bits - 1) ≤ field
    → twos_complement bits field ≡ pos field -ℤ pos (2 ^ bits)
unfolding twos_complement
complement_high bits field high = sym (cond_above field (2 ^ (bits - 1)) (pos field) (pos field -ℤ pos (2 ^ bits))
    (pos field -ℤ pos (2 ^ bits)) high refl)

-- ---- in the order of their numbers

pub counts_unsigned : CountsUp (λ code. pos code) (λ index. index) (pos 0)
counts_unsigned = record {
  word = λ i inside. inside;
  number_is = λ i inside. omega (arith, ints);
  parity = λ i inside. refl;
  index = λ k code. (k, code, refl);
}

-- 32,767 below 0 and one more: -32,768 is the least word
pub signed_number : (i : ℕ) → i < 2 ^ 16 → twos_complement 16 (signed_at i) ≡ negsuc 32767 +ℤ pos i
signed_number i inside =
    elim (cases_lt i 32768) [
      | inl low ↦ let is = complement_high 16 (signed_at i) (omega arith) in omega (arith, ints, is)
      | inr high ↦ let is = complement_low 16 (signed_at i) (omega arith) in omega (arith, ints, is)
    ]

pub counts_signed : CountsUp (twos_complement 16) signed_at (negsuc 32767)
counts_signed = record {
  word = λ i inside. omega arith;
  number_is = signed_number;
  parity = λ i inside. omega arith;
  index = λ k code. (signed_at k, omega arith, omega arith);
}
