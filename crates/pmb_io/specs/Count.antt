-- Counts that stay at the greatest u64.
use Rattle.std.specs.Prelude.{ℕ, ◌+◌, ◌-◌, ◌^◌, max, min}

-- a number as it is counted
abbrev pub capped : ℕ → ℕ
capped n = min n (2 ^ 64 - 1)

-- a count after n more
abbrev pub raised : ℕ → ℕ → ℕ
raised count n = max count (capped (count + n))
