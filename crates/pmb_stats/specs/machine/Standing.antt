-- What the fields of statistics say of the facts that were given, each by the relation of its type.
use Rattle.std.specs.Prelude.{◌≡◌, List, length}
use Rattle.pmb_facts.specs.Fact.{FactData}
use Rattle.pmb_keeper.specs.Setting.{Setting}
use Rattle.pmb_observed.specs.Observing.{observations}
use Rattle.pmb_stats.specs.declared.statistics.Statistics.{Statistics}
use Rattle.pmb_stats.specs.machine.DeviceCounts.{DevicesStandAt}
use Rattle.pmb_stats.specs.machine.TimeSpan.{SpanStandsAt}
use Rattle.pmb_stats_counts.specs.Standing.{SignsStandAt, TotalsStandAt}
use Rattle.pmb_stats_room.specs.Standing.{RoomStandsAt}

pub record StatsStand (stats : Statistics) (setting : Setting) (facts : List FactData) : Type 0 where
  pub profile : stats.profile.now ≡ setting.profile
  pub totals : TotalsStandAt stats.totals facts
  pub devices : DevicesStandAt stats.devices facts
  pub addresses : length stats.devices ≡ 128
  pub signs : SignsStandAt stats.signs setting.profile facts
  pub span : SpanStandsAt stats.span facts
  pub room : RoomStandsAt stats.room setting.profile (observations setting facts)
