use Rattle.std.proofs.Common.{ℕ, List, [], append-nil, subst, sym}
use Rattle.pmb_io.proofs.Writing.{writes_nothing}
use Rattle.pmb_run.specs.machine.Running.{RunnerStands}
use Rattle.pmb_run.proofs.runner.RunnerLineTask.end.Goals as goal

-- No text is put out.
pub returns-clause-ends : goal.returns-clause-ends
returns-clause-ends g c start lines text stands = record {
  text = [];
  writes = writes_nothing _ _;
  holds = subst (λ (all : List ℕ). RunnerStands start c.args.self.now lines all) (sym (append-nil text)) stands;
}
