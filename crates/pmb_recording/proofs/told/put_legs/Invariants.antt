use Rattle.std.proofs.Common.{◌≡◌, take}
use Rattle.pmb_io.specs.Outgoing.{PutsText}
use Rattle.pmb_recording.specs.Told.{leg_bytes, listed}
use Rattle.pmb_recording.proofs.Legs.{is_none}
use Rattle.pmb_recording.proofs.told.put_legs.Given as goal

-- the legs so far, and whether there are any
abbrev pub invariant-loop-b : goal.invariant-loop-b
invariant-loop-b g l = record {
  put : PutsText (g.W.Sink.told l.fn.writer).held l.fn.waiting.items (g.W.Sink.told l.writer).held l.waiting.items
      (listed (leg_bytes (take l.b-index l.wire)));
  first : l.is_first ≡ is_none (leg_bytes (take l.b-index l.wire));
  failures : (g.W.Sink.told l.writer).failures ≡ (g.W.Sink.told l.fn.writer).failures;
}
