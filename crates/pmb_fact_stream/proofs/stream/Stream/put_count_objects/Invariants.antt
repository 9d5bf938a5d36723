use Rattle.std.proofs.Common.{◌≡◌}
use Rattle.std.specs.List.{range_with_len}
use Rattle.pmb_io.specs.Outgoing.{PutsText}
use Rattle.pmb_json_objects.specs.Object.{object_lines}
use Rattle.pmb_fact_stream.specs.Before.{Before}
use Rattle.pmb_fact_stream.specs.Choice.{gives_others}
use Rattle.pmb_fact_stream.specs.Stream.{StreamKnows, stream_choice, stream_profile}
use Rattle.pmb_fact_stream.specs.machine.Counts.{counts_of}
use Rattle.pmb_fact_stream.proofs.stream.Stream.put_count_objects.Given as goal

-- the lines of the devices so far are put out, and no write has failed
abbrev pub invariant-loop-addr : goal.invariant-loop-addr
invariant-loop-addr g l = record {
  failures : (g.W.Sink.told l.writer).failures ≡ (g.W.Sink.told l.fn.writer).failures;
  puts : (b : Before) → StreamKnows b l.self
      → PutsText (g.W.Sink.told l.fn.writer).held l.fn.waiting.items (g.W.Sink.told l.writer).held l.waiting.items
      (object_lines (stream_choice l.self).devices
      (counts_of (stream_profile l.self) (gives_others (stream_choice l.self)) b.counts.of_device
      (range_with_len 0 l.addr)));
}
