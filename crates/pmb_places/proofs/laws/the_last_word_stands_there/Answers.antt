use Rattle.pmb_places.proofs.Behind.{last_stands_there}
use Rattle.pmb_places.proofs.laws.the_last_word_stands_there.Goals as goal

pub returns : goal.returns
returns c = last_stands_there
