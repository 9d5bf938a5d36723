use Rattle.std.proofs.Common.{◌≡◌, List, false, take}
use Rattle.std.specs.List.{flat_map}
use Rattle.pmb_facts.specs.Fact.{FactData}
use Rattle.pmb_keeper.specs.Setting.{Setting}
use Rattle.pmb_observed.specs.Observing.{observations}
use Rattle.pmb_observed.specs.Spot.{page_keys}
use Rattle.pmb_stats_objects.specs.Pages.{page_item}
use Rattle.pmb_stats_objects.specs.machine.Standing.{PagesStand}
use Rattle.pmb_stats_objects.specs.machine.Written.{has_any}
use Rattle.pmb_stats_objects.proofs.pages.DevicePages.has_pages.Given as goal

-- the pages so far have nothing
abbrev pub invariant-loop-index : goal.invariant-loop-index
invariant-loop-index l = record {
  none : (setting : Setting) (facts : List FactData) → PagesStand l.self setting facts
      → has_any (flat_map (page_item l.self.digits setting.profile (observations setting facts) l.self.addr)
      (take l.index (page_keys l.pages))) ≡ false;
}
