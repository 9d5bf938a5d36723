-- What is seen of a spot.
use Rattle.std.specs.Prelude.{◌≤◌, ⊤, List, [], ◌∷◌, length, option_map}
use Rattle.std.specs.Option.{ForSome}
use Rattle.pmb_mean.specs.Numbers.{NumberData}
use Rattle.pmb_observed.specs.declared.spot.Spot.{Spot}
use Rattle.pmb_observed.specs.Observed.{NumberAt, Observation, ReadAt}
use Rattle.pmb_stats_bits.specs.Bits.{RegisterRead}
use Rattle.pmb_stats_room.specs.declared.sight.Sight.{Sight}
use Rattle.pmb_stats_room.specs.declared.sight.Sight.TheVariants.{Read, Number}

-- a time has at most 40 bytes
abbrev pub IsShort : Sight → Type 0
IsShort (Read word time) = ForSome time (λ time. length time.now ≤ 40)
IsShort (Number number) = ⊤

-- the reads of a register among what is seen, and the numbers
abbrev pub reads_in : Sight → List RegisterRead
reads_in (Read word time) = record { word = word; time = option_map (λ time. time.now) time } ∷ []
reads_in (Number number) = []

abbrev pub numbers_in : Sight → List NumberData
numbers_in (Read word time) = []
numbers_in (Number number) = number.now ∷ []

-- as it is told
abbrev pub observation : Spot → Sight → Observation
observation spot (Read word time) = ReadAt spot (record { word = word; time = option_map (λ time. time.now) time })
observation spot (Number number) = NumberAt spot number.now
