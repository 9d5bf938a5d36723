use Rattle.std.proofs.Common.{◌≡◌, List, false, take}
use Rattle.std.specs.List.{flat_map}
use Rattle.pmb_facts.specs.Fact.{FactData}
use Rattle.pmb_keeper.specs.Setting.{Setting}
use Rattle.pmb_observed.specs.Observing.{observations}
use Rattle.pmb_observed.specs.Spot.{phase_keys}
use Rattle.pmb_observed.specs.Told.{spot_numbers}
use Rattle.pmb_stats_objects.specs.machine.Standing.{PagesStand}
use Rattle.pmb_stats_objects.specs.machine.Written.{has_any}
use Rattle.pmb_stats_objects.proofs.pages.DevicePages.has_code_numbers.Given as goal

-- the phases so far have none
abbrev pub invariant-loop-index : goal.invariant-loop-index
invariant-loop-index l = record {
  none : (setting : Setting) (facts : List FactData) → PagesStand l.self setting facts
      → has_any (flat_map (spot_numbers setting.profile (observations setting facts) l.self.addr l.page l.code)
      (take l.index (phase_keys l.phases))) ≡ false;
}
