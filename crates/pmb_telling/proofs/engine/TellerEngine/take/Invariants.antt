use Rattle.std.proofs.Common.{◌≡◌, length}
use Rattle.pmb_telling.proofs.Taking.{TookUpTo}
use Rattle.pmb_telling.proofs.engine.TellerEngine.take.Given as goal

-- what is left of the piece
abbrev pub decreases-lines : goal.decreases-lines
decreases-lines g l = length l.rest

-- the text for what was used of the piece is on its way, and no write has failed
abbrev pub invariant-lines : goal.invariant-lines
invariant-lines g l = record {
  failures : (g.W.Sink.told l.writer).failures ≡ (g.W.Sink.told l.fn.writer).failures;
  took : TookUpTo g.K.Keeper.Keeps l.fn.self l.self l.fn.piece l.rest (g.W.Sink.told l.fn.writer).held
      l.fn.waiting.items
      (g.W.Sink.told l.writer).held l.waiting.items;
}
