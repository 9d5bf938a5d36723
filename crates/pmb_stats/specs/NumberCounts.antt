-- How many numbers were told of a command, whatever page and phase are selected.
use Rattle.std.specs.Prelude.{ℕ, ◌==◌, ◌&&◌, Bool, false, List, count_by, length}
use Rattle.std.specs.List.{sum_by}
use Rattle.pmb_facts.specs.Fact.{FactData}
use Rattle.pmb_keeper.specs.Setting.{Setting}
use Rattle.pmb_observed.specs.Observed.{Observation, NumberAt, ReadAt, numbers_at}
use Rattle.pmb_observed.specs.Observing.{observations}
use Rattle.pmb_observed.specs.Told.{command_spots}
use Rattle.pmb_observed.specs.declared.spot.Spot.{Spot}

-- ---- at any spot

-- whether a number was told of the command with a code, of the device with an address
abbrev pub is_number_of : ℕ → ℕ → Observation → Bool
is_number_of addr code (ReadAt spot read) = false
is_number_of addr code (NumberAt spot number) = (spot.addr == addr) && (spot.code == code)

abbrev pub number_count : ℕ → ℕ → List Observation → ℕ
number_count addr code told = count_by (is_number_of addr code) told

-- ---- by pages and phases

-- of what was told, how many numbers there are at each of some spots, added up
abbrev pub number_count_at : List Observation → List Spot → ℕ
number_count_at told spots = sum_by (λ spot. length (numbers_at spot told)) spots

-- .. of what facts tell of all spots of the command: on all pages of its device, in all its phases
abbrev pub numbers_on_pages : Setting → ℕ → ℕ → List FactData → ℕ
numbers_on_pages setting addr code facts =
    number_count_at (observations setting facts) (command_spots setting.profile addr code)
