use Rattle.std.proofs.Common.{[], ◌++◌}
use Rattle.pmb_io.proofs.Writing.{writes_nothing}
use Rattle.pmb_draft.proofs.Taking.{either_of}
use Rattle.pmb_draft.proofs.draft.DraftEngine.take.Goals as goal

-- nothing is put out
pub returns-clause-takes : goal.returns-clause-takes
returns-clause-takes g c start bytes text taking = record {
  text = [];
  writes = writes_nothing _ _;
  holds = either_of c.take_piece.result start c.take_piece.new.self (bytes ++ c.args.piece.now) text taking.0
      (c.take_piece.ensures bytes taking.1.0 taking.1.1);
}
