-- How far a read was handed to the histories of a register.
use Rattle.std.specs.Prelude.{◌≡◌, ℕ, ◌<◌, ◌≤◌, Some, List, [], ◌∷◌, ◌++◌, slice_get}
use Rattle.pmb_stats_bits.specs.declared.history.BitHistory.{BitHistory}
use Rattle.pmb_stats_bits.specs.Bits.{RegisterRead}
use Rattle.pmb_stats_bits.specs.Standing.{BitStandsAt, RegisterStandsAt}

-- The first n histories took the read, and the others are as they were.
pub record IsSeenTo (start now : List BitHistory) (read : RegisterRead) (n : ℕ) : Type 0 where
  pub seen : (bit : ℕ) (history : BitHistory) → bit < n → slice_get now bit ≡ Some history
      → (reads : List RegisterRead) → RegisterStandsAt start reads
      → BitStandsAt history (reads ++ read ∷ []) bit
  pub rest : (bit : ℕ) → n ≤ bit → slice_get now bit ≡ slice_get start bit
