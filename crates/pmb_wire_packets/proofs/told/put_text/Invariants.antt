use Rattle.std.proofs.Common.{◌≡◌, ◌++◌, length}
use Rattle.pmb_io.specs.Engines.{PutsOut}
use Rattle.pmb_wire_packets.proofs.told.put_text.Given as goal

-- what is put out so far, and the rest
abbrev pub invariant-loop-rest : goal.invariant-loop-rest
invariant-loop-rest g l = record {
  put : PutsOut (λ done. done ++ l.rest ≡ l.text) (g.W.Sink.told l.fn.writer).held l.fn.waiting.items
      (g.W.Sink.told l.writer).held l.waiting.items;
  failures : (g.W.Sink.told l.writer).failures ≡ (g.W.Sink.told l.fn.writer).failures;
}

abbrev pub decreases-loop-rest : goal.decreases-loop-rest
decreases-loop-rest g l = length l.rest
