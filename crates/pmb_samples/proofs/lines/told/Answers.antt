use Rattle.pmb_samples.specs.Source.{told_name}
use Rattle.pmb_samples.proofs.lines.told.Goals as goal

pub returns-clause-value : goal.returns-clause-value
unfolding told_name
returns-clause-value c = c.front.ensures.value
