use Rattle.std.proofs.Common.{◌≡◌, take}
use Rattle.pmb_io.specs.Outgoing.{PutsText}
use Rattle.pmb_recording.specs.machine.Texts.{wire_text}
use Rattle.pmb_recording.proofs.told.put_wire.Given as goal

-- the bytes so far
abbrev pub invariant-loop-b : goal.invariant-loop-b
invariant-loop-b g l = record {
  put : PutsText (g.W.Sink.told l.fn.writer).held l.fn.waiting.items (g.W.Sink.told l.writer).held l.waiting.items
      (wire_text (take l.b-index l.wire));
  failures : (g.W.Sink.told l.writer).failures ≡ (g.W.Sink.told l.fn.writer).failures;
}
