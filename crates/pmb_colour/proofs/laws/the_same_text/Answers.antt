use Rattle.pmb_colour.proofs.TakenOut.{text_taken_out}
use Rattle.pmb_colour.proofs.Texts.{text_same}
use Rattle.pmb_colour.proofs.laws.the_same_text.Goals as goal

pub returns-clause-text : goal.returns-clause-text
returns-clause-text c = text_same

pub returns-clause-taken_out : goal.returns-clause-taken_out
returns-clause-taken_out c = text_taken_out
