-- Whole numbers times a power of two: for the codes of DIRECT and of LINEAR11. A power is a
-- smaller one times what is left, and with a factor of 2 or more a number moves away from 0.
use Rattle.std.proofs.Common.{◌≡◌, ℕ, suc, ◌*◌, ◌+◌, ◌-◌, ◌^◌, ◌<◌, ◌≤◌, ℤ, pos, negsuc, neg_ℤ, ◌*ℤ◌, ◌≤ℤ◌, sym, ap}
use Rattle.std.proofs.Common.{◌∙◌, arith}
use Rattle.std.proofs.lemmas.Nat.{pow-add, pow_below, mul-le}
use Rattle.std.proofs.lemmas.Int.{ints}
use Rattle.pmb_quantity.proofs.Scaling.{scale-scale}

-- a power of two as a smaller one, times what is left
pub power_splits : (m : ℤ) (i j : ℕ) → i ≤ j → m *ℤ pos (2 ^ j) ≡ (m *ℤ pos (2 ^ (j - i))) *ℤ pos (2 ^ i)
power_splits m i j order =
    let sum : (j - i) + i ≡ j = omega arith in
    ap (λ k. m *ℤ pos (2 ^ k)) (sym sum) ∙ ap (λ p. m *ℤ pos p) (pow-add 2 (j - i) i)
    ∙ sym (scale-scale m (2 ^ (j - i)) (2 ^ i))

-- a power above 0 is 2 or more
pub two_or_more : (k : ℕ) → 0 < k → 2 ≤ 2 ^ k
two_or_more k positive = omega (arith, pow_below 0 k positive)

-- what is at least n, twice or more, is at least 2 * n
pub grows_up : (n : ℕ) (m : ℤ) (s : ℕ) → 2 ≤ s → pos n ≤ℤ m → pos (n * 2) ≤ℤ (m *ℤ pos s)
grows_up n (pos m) s twice large =
    let product : n * 2 ≤ m * s = mul-le n 2 m s (omega (arith, ints)) twice in
    omega (arith, ints)
grows_up n (negsuc m) s twice large = absurd (omega (arith, ints))

-- .. and likewise downwards
pub grows_down : (n : ℕ) (m : ℤ) (s : ℕ) → 2 ≤ s → m ≤ℤ negsuc n → (m *ℤ pos s) ≤ℤ neg_ℤ (pos (suc n * 2))
grows_down n (pos m) s twice small = absurd (omega (arith, ints))
grows_down n (negsuc m) s twice small =
    let product : suc n * 2 ≤ suc m * s = mul-le (suc n) 2 (suc m) s (omega (arith, ints)) twice in
    omega (arith, ints)

-- the factors 1 and -1
pub one-scale : (m : ℤ) → pos 1 *ℤ m ≡ m
one-scale m = omega (arith, ints)

pub minus_one-scale : (m : ℤ) → negsuc 0 *ℤ m ≡ neg_ℤ m
minus_one-scale (pos n) = ap (λ k. neg_ℤ (pos k)) (omega arith)
minus_one-scale (negsuc n) = ap pos (omega arith)
