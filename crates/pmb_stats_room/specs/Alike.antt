-- Observations of which the same is told of each spot.
use Rattle.std.specs.Prelude.{◌≡◌, ℕ, ◌<◌, true, List}
use Rattle.pmb_command.specs.Parts.{DeviceParts}
use Rattle.pmb_mean.specs.Alike.{TellNumbersAlike}
use Rattle.pmb_mean.specs.Numbers.{kept}
use Rattle.pmb_observed.specs.declared.spot.Spot.{Spot}
use Rattle.pmb_observed.specs.Observed.{Observation, numbers_at, reads_at}
use Rattle.pmb_observed.specs.Spot.{has_numbers, has_register}
use Rattle.pmb_stats_bits.specs.Alike.{TellBitAlike}

-- of each bit of a status register of the profile, and of the numbers of each command that has them
pub record TellSpotsAlike (profile : List DeviceParts) (told others : List Observation) : Type 0 where
  pub bits : (spot : Spot) → spot.addr < 256 → spot.code < 256 → has_register profile spot ≡ true → (bit : ℕ)
      → bit < 16 → TellBitAlike (reads_at spot told) (reads_at spot others) bit
  pub numbers : (spot : Spot) → spot.addr < 256 → spot.code < 256 → has_numbers profile spot ≡ true
      → TellNumbersAlike (kept (numbers_at spot told)) (kept (numbers_at spot others))
