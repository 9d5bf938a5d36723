-- Counts that stay at the greatest u64.
use Rattle.std.specs.Prelude.{ℕ, ◌-◌, ◌^◌, min}

-- a count of bytes as a `u64` has it
abbrev pub capped : ℕ → ℕ
capped n = min n (2 ^ 64 - 1)
