-- What histories were given: `BitStandsAt history reads bit` says that a history was given these reads of
-- a bit since `new`. What that says of its own fields is in `machine`, and nothing else needs it to be
-- understood.
use Rattle.std.specs.Prelude.{◌≡◌, ℕ, Some, List, slice_get}
use Rattle.pmb_stats_bits.specs.declared.history.BitHistory.{BitHistory}
use Rattle.pmb_stats_bits.specs.Bits.{RegisterRead}
pub use Rattle.pmb_stats_bits.specs.machine.Standing.{BitStandsAt}

-- the histories of a register's lowest bits, that of bit 0 first
abbrev pub RegisterStandsAt : List BitHistory → List RegisterRead → Type 0
RegisterStandsAt bits reads =
    (bit : ℕ) (history : BitHistory) → slice_get bits bit ≡ Some history → BitStandsAt history reads bit
