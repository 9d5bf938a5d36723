-- Products of two numbers of 64 bits.
use Rattle.std.proofs.Common.{ℕ, ◌<◌, ◌*◌, ◌^◌}
use Rattle.std.proofs.lemmas.Nat.{mul-lt}

pub fits_wide : (a b : ℕ) → a < 2 ^ 64 → b < 2 ^ 64 → a * b < 2 ^ 128
fits_wide a b first second = mul-lt a b (2 ^ 64) (2 ^ 64) first second
