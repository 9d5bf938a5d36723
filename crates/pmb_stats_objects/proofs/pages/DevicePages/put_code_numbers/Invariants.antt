use Rattle.std.proofs.Common.{◌≡◌, List, map, take}
use Rattle.std.specs.List.{flat_map}
use Rattle.pmb_facts.specs.Fact.{FactData}
use Rattle.pmb_keeper.specs.Setting.{Setting}
use Rattle.pmb_observed.specs.Observing.{observations}
use Rattle.pmb_observed.specs.Spot.{phase_keys}
use Rattle.pmb_observed.specs.Told.{spot_numbers}
use Rattle.pmb_stats_objects.specs.Pages.{numbers_item}
use Rattle.pmb_stats_objects.specs.machine.Standing.{PagesStand}
use Rattle.pmb_stats_objects.specs.machine.Written.{PutsItems}
use Rattle.pmb_stats_objects.proofs.pages.DevicePages.put_code_numbers.Given as goal

-- those of the phases so far
abbrev pub invariant-loop-index : goal.invariant-loop-index
invariant-loop-index g l = record {
  put : (setting : Setting) (facts : List FactData) → PagesStand l.self setting facts
      → PutsItems (map (numbers_item l.self.digits) (flat_map (spot_numbers setting.profile (observations setting facts)
      l.self.addr l.page l.code) (take l.index (phase_keys l.phases))))
      (g.W.Sink.told l.fn.writer).held l.fn.waiting.items l.fn.place (g.W.Sink.told l.writer).held l.waiting.items
      l.place;
  failures : (g.W.Sink.told l.writer).failures ≡ (g.W.Sink.told l.fn.writer).failures;
}
