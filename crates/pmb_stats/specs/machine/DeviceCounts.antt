-- What the counts of devices, by their addresses, say of the facts that were given.
use Rattle.std.specs.Prelude.{◌≡◌, ℕ, Some, List, slice_get}
use Rattle.pmb_facts.specs.Fact.{FactData}
use Rattle.pmb_stats_counts.specs.declared.counts.SortCounts.{SortCounts}
use Rattle.pmb_stats_counts.specs.Counts.{of_device}
use Rattle.pmb_stats_counts.specs.Standing.{HasCounted}

-- the counts of each device were given the facts that name it
pub record DevicesStandAt (devices : List SortCounts) (facts : List FactData) : Type 0 where
  pub each : (addr : ℕ) (counts : SortCounts) → slice_get devices addr ≡ Some counts
      → HasCounted counts (of_device addr facts)
