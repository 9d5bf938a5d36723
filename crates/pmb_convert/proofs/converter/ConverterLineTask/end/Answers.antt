use Rattle.std.proofs.Common.{ℕ, List, [], append-nil, subst, sym}
use Rattle.pmb_io.proofs.Writing.{writes_nothing}
use Rattle.pmb_convert.specs.machine.Converting.{ConverterStands}
use Rattle.pmb_convert.proofs.converter.ConverterLineTask.end.Goals as goal

-- No text is put out.
pub returns-clause-ends : goal.returns-clause-ends
returns-clause-ends g c start lines text stands = record {
  text = [];
  writes = writes_nothing _ _;
  holds = subst (λ (all : List ℕ). ConverterStands start c.args.self.now lines all) (sym (append-nil text)) stands;
}
