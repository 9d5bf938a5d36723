-- How a quotient is rounded.
use Rattle.std.specs.Prelude.{◌≡◌, ℕ, ◌+◌, ◌*◌, ◌/◌, ◌%◌, ◌≤◌}

-- the whole number nearest to n / d, and the even one at a tie
pub data Rounds (n d r : ℕ) : Type 0 where
  down : r ≡ n / d → n % d * 2 ≤ d → (n % d * 2 ≡ d → r % 2 ≡ 0) → Rounds n d r
  up : r ≡ n / d + 1 → d ≤ n % d * 2 → (n % d * 2 ≡ d → r % 2 ≡ 0) → Rounds n d r
