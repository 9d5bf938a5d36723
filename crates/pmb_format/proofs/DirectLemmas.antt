-- The numerators of DIRECT: for `DirectCodes::numerator`, `denominator` and what uses them. A code
-- y has the value (y * 10^-R - b) / m; with the sign of m in the numerator the denominator is
-- positive.
use Rattle.std.proofs.Common.{◌≡◌, ◌≢◌, ℕ, zero, suc, ◌*◌, ◌^◌, ◌<◌, ℤ, pos, negsuc, neg_ℤ, ◌-ℤ◌, ◌*ℤ◌, ◌<ℤ◌, ◌≤ℤ◌}
use Rattle.std.proofs.Common.{Bool, unsigned_abs, refl, subst, arith}
use Rattle.std.proofs.lemmas.Int.{ints}
use Rattle.std.proofs.Math.Nat.{one-le-pow, mul-lt-mul_of_pos_right}
use Rattle.pmb_coefficients.specs.Coefficients.{Coefficients}
use Rattle.pmb_format.specs.Direct.{direct_word, positive_part, sign_of}
use Rattle.pmb_format.proofs.Scaling.{one-scale, minus_one-scale}

pub ten_positive : (k : ℕ) → 0 < 10 ^ k
ten_positive k = omega (arith, one-le-pow k 10 (omega arith))

-- the numerator without the sign of m
abbrev pub unsigned_numerator : Coefficients → ℕ → ℤ
unsigned_numerator d code = direct_word d.unsigned code *ℤ pos (10 ^ positive_part (neg_ℤ d.r)) -ℤ d.b *ℤ pos
    (10 ^ positive_part d.r)

pub denominator_positive : (m : ℤ) (k : ℕ) → m ≢ pos 0 → 0 < unsigned_abs m * 10 ^ k
denominator_positive (pos zero) k slope = absurd (slope refl)
denominator_positive (pos (suc n)) k slope =
    omega (arith, mul-lt-mul_of_pos_right {m = 0} {n = suc n} (omega arith) (ten_positive k))
denominator_positive (negsuc n) k slope =
    omega (arith, mul-lt-mul_of_pos_right {m = 0} {n = suc n} (omega arith) (ten_positive k))

-- a positive and a negative slope
abbrev pub with_slope : ℤ → ℤ → ℤ → Bool → Coefficients
with_slope m b r unsigned = record { m = m; b = b; r = r; unsigned = unsigned }

-- the sign of a number that is not 0
pub sign_of-negative : (m z : ℤ) → m <ℤ pos 0 → sign_of m *ℤ z ≡ neg_ℤ z
sign_of-negative (pos n) z less = absurd (omega (arith, ints))
sign_of-negative (negsuc n) z less = minus_one-scale z

pub sign_of-positive : (m z : ℤ) → m ≢ pos 0 → pos 0 ≤ℤ m → sign_of m *ℤ z ≡ z
sign_of-positive (pos zero) z slope more = absurd (slope refl)
sign_of-positive (pos (suc n)) z slope more = one-scale z
sign_of-positive (negsuc n) z slope more = absurd (omega (arith, ints))

-- the numerator, step by step
pub numerator_is : (code : ℕ) (d i : Coefficients) (number word from offset result : ℤ) (down up : ℕ) → i ≡ d
    → number ≡ direct_word i.unsigned code → down ≡ 10 ^ positive_part (neg_ℤ i.r) → word ≡ number *ℤ pos down
    → from ≡ i.b → up ≡ 10 ^ positive_part i.r → offset ≡ from *ℤ pos up → result ≡ sign_of i.m *ℤ (word -ℤ offset)
    → result ≡ sign_of d.m *ℤ unsigned_numerator d code
numerator_is code d i number word from offset result down up same number_is down_is word_is from_is up_is
    offset_is result_is =
    let P : Coefficients → Type 0 = λ e. result ≡ sign_of e.m *ℤ unsigned_numerator e code in
    subst P same (cc)
