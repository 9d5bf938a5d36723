use Rattle.pmb_colour.proofs.Whole.{whole_same, whole_taken_out}
use Rattle.pmb_colour.proofs.laws.the_whole_text.Goals as goal

pub returns-clause-text : goal.returns-clause-text
returns-clause-text c = whole_same

pub returns-clause-taken_out : goal.returns-clause-taken_out
returns-clause-taken_out c = whole_taken_out
