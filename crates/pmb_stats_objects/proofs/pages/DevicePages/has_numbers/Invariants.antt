use Rattle.std.proofs.Common.{◌≡◌, List, false}
use Rattle.std.specs.List.{flat_map, range_with_len}
use Rattle.pmb_facts.specs.Fact.{FactData}
use Rattle.pmb_keeper.specs.Setting.{Setting}
use Rattle.pmb_observed.specs.Observing.{observations}
use Rattle.pmb_observed.specs.Told.{code_numbers}
use Rattle.pmb_stats_objects.specs.machine.Standing.{PagesStand}
use Rattle.pmb_stats_objects.specs.machine.Written.{has_any}
use Rattle.pmb_stats_objects.proofs.pages.DevicePages.has_numbers.Given as goal

-- the commands so far have none
abbrev pub invariant-loop-code : goal.invariant-loop-code
invariant-loop-code l = record {
  none : (setting : Setting) (facts : List FactData) → PagesStand l.self setting facts
      → has_any (flat_map (code_numbers setting.profile (observations setting facts) l.self.addr l.page)
      (range_with_len 0 l.code)) ≡ false;
}
