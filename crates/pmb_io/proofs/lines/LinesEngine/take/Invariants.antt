use Rattle.std.proofs.Common.{◌≡◌, ◌++◌, List, ℕ, length}
use Rattle.pmb_io.specs.Engines.{PutsOut}
use Rattle.pmb_io.specs.machine.Lines.{StandsInLine}
use Rattle.pmb_io.proofs.lines.LinesEngine.take.Given as goal

-- the lines so far are taken, and no write has failed
abbrev pub invariant-loop-len : goal.invariant-loop-len
invariant-loop-len g l = record {
  front : List ℕ;
  whole : l.fn.piece ≡ front ++ l.rest;
  failures : (g.W.Sink.told l.writer).failures ≡ (g.W.Sink.told l.fn.writer).failures;
  took : (start : g.row.T.Denot) (bytes text : List ℕ)
      → StandsInLine (g.T.LineTask.Stands start l.fn.self.task) g.row.MOST l.fn.self.line.items l.fn.self.is_longer
      bytes text
      → PutsOut (λ more. StandsInLine (g.T.LineTask.Stands start l.self.task) g.row.MOST l.self.line.items
      l.self.is_longer (bytes ++ front) (text ++ more))
      (g.W.Sink.told l.fn.writer).held l.fn.waiting.items (g.W.Sink.told l.writer).held l.waiting.items;
}

abbrev pub decreases-loop-len : goal.decreases-loop-len
decreases-loop-len g l = length l.rest
