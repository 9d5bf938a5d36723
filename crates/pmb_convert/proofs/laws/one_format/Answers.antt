use Rattle.pmb_convert.proofs.Ranges.{named_in}
use Rattle.pmb_convert.proofs.Sayings.{one_saying, one_answer}
use Rattle.pmb_convert.proofs.laws.one_format.Goals as goal

pub returns-clause-spelled : goal.returns-clause-spelled
returns-clause-spelled c = one_saying

pub returns-clause-named : goal.returns-clause-named
returns-clause-named c = one_answer

pub returns-clause-in_range : goal.returns-clause-in_range
returns-clause-in_range c = named_in
