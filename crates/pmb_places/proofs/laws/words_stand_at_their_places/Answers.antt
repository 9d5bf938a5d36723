use Rattle.pmb_places.proofs.Fronts.{stands_there}
use Rattle.pmb_places.proofs.laws.words_stand_at_their_places.Goals as goal

pub returns : goal.returns
returns c = stands_there
