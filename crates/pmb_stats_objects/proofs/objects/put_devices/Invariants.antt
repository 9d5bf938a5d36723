use Rattle.std.proofs.Common.{◌≡◌, List}
use Rattle.std.specs.List.{range_with_len}
use Rattle.pmb_facts.specs.Fact.{FactData}
use Rattle.pmb_io.specs.Outgoing.{PutsText}
use Rattle.pmb_keeper.specs.Setting.{Setting}
use Rattle.pmb_stats.specs.Standing.{StatsStand}
use Rattle.pmb_stats_objects.specs.machine.Standing.{device_lines}
use Rattle.pmb_stats_objects.proofs.objects.put_devices.Given as goal

-- the lines of the addresses so far
abbrev pub invariant-loop-addr : goal.invariant-loop-addr
invariant-loop-addr g l = record {
  put : (setting : Setting) (facts : List FactData) → StatsStand l.stats setting facts
      → PutsText (g.W.Sink.told l.fn.writer).held l.fn.waiting.items (g.W.Sink.told l.writer).held l.waiting.items
      (device_lines l.digits setting facts l.devices (range_with_len 0 l.addr));
  failures : (g.W.Sink.told l.writer).failures ≡ (g.W.Sink.told l.fn.writer).failures;
}
