use Rattle.std.proofs.Common.{◌≡◌, ◌≤◌, ◌++◌, List, length}
use Rattle.pmb_io.specs.Engines.{PutsOut}
use Rattle.pmb_io.specs.Lines.{TextLine, lines_of}
use Rattle.pmb_whole_input.proofs.tasks.put_all.Given as goal

-- These lines were handed on, those of the rest are the others, and no write has failed.
abbrev pub invariant-loop-len : goal.invariant-loop-len
invariant-loop-len g l = record {
  given : List TextLine;
  lines : lines_of g.row.MOST l.fn.input ≡ given ++ lines_of g.row.MOST l.rest;
  within : length l.rest ≤ length l.fn.input;
  failures : (g.W.Sink.told l.writer).failures ≡ (g.W.Sink.told l.fn.writer).failures;
  put : PutsOut (λ text. g.T.LineTask.Stands l.fn.task l.task given text)
      (g.W.Sink.told l.fn.writer).held l.fn.waiting.items (g.W.Sink.told l.writer).held l.waiting.items;
}

abbrev pub decreases-loop-len : goal.decreases-loop-len
decreases-loop-len g l = length l.rest
