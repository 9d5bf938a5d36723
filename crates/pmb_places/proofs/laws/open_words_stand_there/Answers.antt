use Rattle.pmb_places.proofs.OpenWords.{found_behind, open_stands, opened_behind}
use Rattle.pmb_places.proofs.laws.open_words_stand_there.Goals as goal

pub returns : goal.returns
returns c = record { place = open_stands; opened = opened_behind; found = found_behind }
