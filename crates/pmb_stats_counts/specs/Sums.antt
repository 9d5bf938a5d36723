-- Sums over addresses.
use Rattle.std.specs.Prelude.{ℕ, zero, suc, ◌+◌}

-- the sum of what a function has at the numbers below n
unfoldable pub sum_below : (ℕ → ℕ) → ℕ → ℕ
sum_below f zero = 0
sum_below f (suc n) = sum_below f n + f n
