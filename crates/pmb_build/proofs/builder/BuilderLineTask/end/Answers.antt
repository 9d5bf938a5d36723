use Rattle.std.proofs.Common.{ℕ, List, [], append-nil, subst, sym}
use Rattle.pmb_io.proofs.Writing.{writes_nothing}
use Rattle.pmb_build.specs.machine.Building.{BuilderStands}
use Rattle.pmb_build.proofs.builder.BuilderLineTask.end.Goals as goal

-- No text is put out.
pub returns-clause-ends : goal.returns-clause-ends
returns-clause-ends g c start lines text stands = record {
  text = [];
  writes = writes_nothing _ _;
  holds = subst (λ (all : List ℕ). BuilderStands start c.args.self.now lines all) (sym (append-nil text)) stands;
}
