use Rattle.std.proofs.Common.{◌≡◌, ◌≤◌, length}
use Rattle.pmb_scan.proofs.Taking.{TookUpTo}
use Rattle.pmb_scan.proofs.scan.Scan.take_words.Given as goal

-- what is left of the piece
abbrev pub decreases-packets : goal.decreases-packets
decreases-packets g l = length l.rest

abbrev pub decreases-words : goal.decreases-words
decreases-words g l = length l.rest

-- the text for what was used of the piece is on its way, and no write has failed
abbrev pub invariant-packets : goal.invariant-packets
invariant-packets g l = record {
  failures : (g.W.Sink.told l.writer).failures ≡ (g.W.Sink.told l.fn.writer).failures;
  within : length l.rest ≤ length l.fn.piece;
  took : TookUpTo g.V.Visitor.Stands l.fn.self l.fn.visitor l.fn.piece l.rest
      (g.W.Sink.told l.fn.writer).held l.fn.waiting.items (g.W.Sink.told l.writer).held l.waiting.items l.self
      l.visitor;
}

-- so too word by word, where no more is left than when the first word began
abbrev pub invariant-words : goal.invariant-words
invariant-words g l = record {
  failures : (g.W.Sink.told l.writer).failures ≡ (g.W.Sink.told l.fn.writer).failures;
  within : length l.rest ≤ length l.fn.piece;
  shorter : length l.rest ≤ length l.initial.rest;
  took : TookUpTo g.V.Visitor.Stands l.fn.self l.fn.visitor l.fn.piece l.rest
      (g.W.Sink.told l.fn.writer).held l.fn.waiting.items (g.W.Sink.told l.writer).held l.waiting.items l.self
      l.visitor;
}
