use Rattle.std.proofs.Common.{◌≡◌, take}
use Rattle.pmb_bus.specs.Event.{canonical_text}
use Rattle.pmb_io.specs.Outgoing.{PutsText}
use Rattle.pmb_run.proofs.bench.put_events.Given as goal

-- The text of the events so far was put out.
abbrev pub invariant-loop-event : goal.invariant-loop-event
invariant-loop-event g l = record {
  put : PutsText (g.W.Sink.told l.fn.writer).held l.fn.waiting.items (g.W.Sink.told l.writer).held l.waiting.items
      (canonical_text (take l.event-index l.events));
  failures : (g.W.Sink.told l.writer).failures ≡ (g.W.Sink.told l.fn.writer).failures;
}
