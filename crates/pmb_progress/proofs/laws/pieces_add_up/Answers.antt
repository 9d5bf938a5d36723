use Rattle.pmb_progress.proofs.Pieces.{count_goes_on, place_goes_on}
use Rattle.pmb_progress.proofs.laws.pieces_add_up.Goals as goal

pub returns-clause-count : goal.returns-clause-count
returns-clause-count c = count_goes_on

pub returns-clause-place : goal.returns-clause-place
returns-clause-place c = place_goes_on
