use Rattle.std.proofs.Common.{◌≡◌}
use Rattle.std.specs.List.{flat_map, range_with_len}
use Rattle.pmb_io.specs.Outgoing.{PutsText}
use Rattle.pmb_profile_text.specs.Table.{mode_line}
use Rattle.pmb_profile_text.proofs.device_text.put_each_mode.Given as goal

-- the lines of the pages so far
abbrev pub invariant-loop-page : goal.invariant-loop-page
invariant-loop-page g l = record {
  put : PutsText (g.W.Sink.told l.fn.writer).held l.fn.waiting.items (g.W.Sink.told l.writer).held l.waiting.items
      (flat_map (mode_line l.device) (range_with_len 0 l.page));
  failures : (g.W.Sink.told l.writer).failures ≡ (g.W.Sink.told l.fn.writer).failures;
}
