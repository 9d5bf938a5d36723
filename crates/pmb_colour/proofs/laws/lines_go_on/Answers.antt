use Rattle.pmb_colour.proofs.Texts.{held_goes_on, pieces_go_on}
use Rattle.pmb_colour.proofs.laws.lines_go_on.Goals as goal

pub returns-clause-pieces : goal.returns-clause-pieces
returns-clause-pieces c = pieces_go_on

pub returns-clause-held : goal.returns-clause-held
returns-clause-held c = held_goes_on
