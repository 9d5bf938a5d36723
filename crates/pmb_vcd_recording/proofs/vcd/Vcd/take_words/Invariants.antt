use Rattle.std.proofs.Common.{◌≡◌, List, ℕ, length}
use Rattle.pmb_io.specs.Outgoing.{PutsText}
use Rattle.pmb_vcd.specs.Words.{words}
use Rattle.pmb_vcd_recording.proofs.WordLemmas.{ToCome}
use Rattle.pmb_vcd_recording.proofs.vcd.Vcd.take_words.Given as goal

-- what was put out for the words so far, and what is to come of the others
abbrev pub invariant-loop-found : goal.invariant-loop-found
invariant-loop-found g l = record {
  done : List ℕ;
  to_come : ToCome l.fn.self l.self l.fn.text l.left done;
  failures : (g.W.Sink.told l.writer).failures ≡ (g.W.Sink.told l.fn.writer).failures;
  put : PutsText (g.W.Sink.told l.fn.writer).held l.fn.waiting.items (g.W.Sink.told l.writer).held l.waiting.items done;
}

abbrev pub decreases-loop-found : goal.decreases-loop-found
decreases-loop-found g l = length (words l.left)
