-- What an `Observed` of the code says.
use Rattle.std.specs.Prelude.{ℕ, Option, List, [], ◌∷◌}
use Rattle.pmb_observed.specs.Observed.{Observation, NumberAt, ReadAt}
use Rattle.pmb_stats.specs.declared.observed.Observed.{Observed}
use Rattle.pmb_stats.specs.declared.observed.Observed.TheVariants as declared
use Rattle.pmb_stats_bits.specs.Bits.{RegisterRead}

-- the read of a word at a time
abbrev pub read_at_time : Option (List ℕ) → ℕ → RegisterRead
read_at_time time word = record { word = word; time = time }

-- with the time of the fact
abbrev pub told : Option (List ℕ) → Observed → List Observation
told time declared.Nothing = []
told time (declared.Read spot word) = ReadAt spot (read_at_time time word) ∷ []
told time (declared.Number spot number) = NumberAt spot number ∷ []
