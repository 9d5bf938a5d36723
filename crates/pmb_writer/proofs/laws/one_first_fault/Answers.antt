use Rattle.pmb_writer.specs.Invalid.{transaction_rules}
use Rattle.pmb_writer.proofs.Rules.{one_broken}
use Rattle.pmb_writer.proofs.laws.one_first_fault.Goals as goal

pub returns : goal.returns
returns c = λ profile t a b first second. one_broken (transaction_rules profile t) a b first second
