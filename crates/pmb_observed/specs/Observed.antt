-- What is told of spots, one after the other.
use Rattle.std.specs.Prelude.{if◌then◌else◌, List, [], ◌∷◌}
use Rattle.pmb_mean.specs.Numbers.{NumberData}
use Rattle.pmb_stats_bits.specs.Bits.{RegisterRead}
use Rattle.pmb_observed.specs.declared.spot.Spot.{Spot}
use Rattle.pmb_observed.specs.Spot.{same_spot}

pub data Observation : Type 0 where
  -- a status register was read there
  ReadAt : Spot → RegisterRead → Observation
  -- a number was read or written there
  NumberAt : Spot → NumberData → Observation

-- the reads of the register at a spot, in order
abbrev pub reads_at : Spot → List Observation → List RegisterRead
reads_at spot [] = []
reads_at spot (ReadAt at read ∷ more) = if same_spot at spot then read ∷ reads_at spot more else reads_at spot more
reads_at spot (NumberAt at number ∷ more) = reads_at spot more

-- the numbers there, in order
abbrev pub numbers_at : Spot → List Observation → List NumberData
numbers_at spot [] = []
numbers_at spot (ReadAt at read ∷ more) = numbers_at spot more
numbers_at spot (NumberAt at number ∷ more) =
    if same_spot at spot then number ∷ numbers_at spot more else numbers_at spot more
