use Rattle.std.proofs.Common.{◌≡◌, List}
use Rattle.std.specs.List.{flat_map, range_with_len}
use Rattle.pmb_facts.specs.Fact.{FactData}
use Rattle.pmb_keeper.specs.Setting.{Setting}
use Rattle.pmb_observed.specs.Observing.{observations}
use Rattle.pmb_observed.specs.Told.{code_numbers}
use Rattle.pmb_stats.specs.Standing.{StatsStand}
use Rattle.pmb_stats_table.specs.machine.Lines.{PutsNumbers}
use Rattle.pmb_stats_table.proofs.put_numbers.put_page_numbers.Given as goal

-- the numbers of the codes so far
abbrev pub invariant-loop-code : goal.invariant-loop-code
invariant-loop-code g l = record {
  lines : (setting : Setting) (facts : List FactData) → StatsStand l.stats setting facts
      → PutsNumbers l.widths l.digits l.fn.place
      (flat_map (code_numbers setting.profile (observations setting facts) l.addr l.page) (range_with_len 0 l.code))
      (g.W.Sink.told l.fn.writer).held l.fn.waiting.items (g.W.Sink.told l.writer).held l.waiting.items l.place;
  failures : (g.W.Sink.told l.writer).failures ≡ (g.W.Sink.told l.fn.writer).failures;
}
