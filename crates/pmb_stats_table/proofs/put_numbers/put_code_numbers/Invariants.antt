use Rattle.std.proofs.Common.{◌≡◌, List, take}
use Rattle.std.specs.List.{flat_map}
use Rattle.pmb_facts.specs.Fact.{FactData}
use Rattle.pmb_keeper.specs.Setting.{Setting}
use Rattle.pmb_observed.specs.Observing.{observations}
use Rattle.pmb_observed.specs.Spot.{phase_keys}
use Rattle.pmb_observed.specs.Told.{spot_numbers}
use Rattle.pmb_stats.specs.Standing.{StatsStand}
use Rattle.pmb_stats_table.specs.machine.Lines.{PutsNumbers}
use Rattle.pmb_stats_table.proofs.put_numbers.put_code_numbers.Given as goal

-- the numbers of the phases so far
abbrev pub invariant-loop-index : goal.invariant-loop-index
invariant-loop-index g l = record {
  lines : (setting : Setting) (facts : List FactData) → StatsStand l.stats setting facts
      → PutsNumbers l.widths l.digits l.fn.place
      (flat_map (spot_numbers setting.profile (observations setting facts) l.addr l.page l.code)
      (take l.index (phase_keys l.phases)))
      (g.W.Sink.told l.fn.writer).held l.fn.waiting.items (g.W.Sink.told l.writer).held l.waiting.items l.place;
  failures : (g.W.Sink.told l.writer).failures ≡ (g.W.Sink.told l.fn.writer).failures;
}
