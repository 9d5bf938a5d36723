use Rattle.std.proofs.Common.{[], ◌∙◌, append-nil}
use Rattle.pmb_io.proofs.Writing.{writes_nothing}
use Rattle.pmb_draft.proofs.draft.DraftEngine.end.Goals as goal

-- nothing is put out
pub returns-clause-ends : goal.returns-clause-ends
returns-clause-ends g c start bytes text taking = record {
  text = [];
  writes = writes_nothing _ _;
  holds = (append-nil text ∙ taking.0, c.take_end.ensures bytes taking.1.0 taking.1.1);
}
