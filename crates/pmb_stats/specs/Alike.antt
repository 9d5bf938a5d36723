-- Facts of which statistics tell the same.
use Rattle.std.specs.Prelude.{◌≡◌, ℕ, ◌<◌, List}
use Rattle.pmb_facts.specs.Fact.{FactData}
use Rattle.pmb_keeper.specs.Setting.{Setting}
use Rattle.pmb_observed.specs.Observing.{first_time, last_time, observations}
use Rattle.pmb_stats_counts.specs.Alike.{CountAlike, TotalAlike}
use Rattle.pmb_stats_counts.specs.Counts.{has_come, of_device}
use Rattle.pmb_stats_room.specs.Alike.{TellSpotsAlike}

-- under two settings that have one profile
pub record TellAlike (setting other : Setting) (facts others : List FactData) : Type 0 where
  pub profile : setting.profile ≡ other.profile
  pub totals : TotalAlike facts others
  pub devices : (addr : ℕ) → addr < 128 → CountAlike (of_device addr facts) (of_device addr others)
  pub come : (addr : ℕ) → addr < 128 → has_come addr facts ≡ has_come addr others
  pub first : first_time facts ≡ first_time others
  pub last : last_time facts ≡ last_time others
  pub spots : TellSpotsAlike setting.profile (observations setting facts) (observations other others)
