use Rattle.std.proofs.Common.{◌≡◌, List, map}
use Rattle.std.specs.List.{flat_map, range_with_len}
use Rattle.pmb_facts.specs.Fact.{FactData}
use Rattle.pmb_keeper.specs.Setting.{Setting}
use Rattle.pmb_observed.specs.Observing.{observations}
use Rattle.pmb_observed.specs.Told.{code_bits}
use Rattle.pmb_stats_objects.specs.Pages.{bit_item}
use Rattle.pmb_stats_objects.specs.machine.Standing.{PagesStand}
use Rattle.pmb_stats_objects.specs.machine.Written.{PutsItems}
use Rattle.pmb_stats_objects.proofs.pages.DevicePages.put_page_bits.Given as goal

-- those of the commands so far
abbrev pub invariant-loop-code : goal.invariant-loop-code
invariant-loop-code g l = record {
  put : (setting : Setting) (facts : List FactData) → PagesStand l.self setting facts
      → PutsItems (map bit_item (flat_map (code_bits setting.profile (observations setting facts) l.self.addr l.page)
      (range_with_len 0 l.code)))
      (g.W.Sink.told l.fn.writer).held l.fn.waiting.items l.fn.place (g.W.Sink.told l.writer).held l.waiting.items
      l.place;
  failures : (g.W.Sink.told l.writer).failures ≡ (g.W.Sink.told l.fn.writer).failures;
}
