use Rattle.pmb_places.proofs.OpenWords.{begun, ended, last}
use Rattle.pmb_places.proofs.laws.open_words_stand_in_front.Goals as goal

pub returns : goal.returns
returns c = record { begun = begun; ended = ended; last = last }
