use Rattle.pmb_places.proofs.Behind.{counted_behind}
use Rattle.pmb_places.proofs.Counts.{each_counted}
use Rattle.pmb_places.proofs.laws.each_word_has_a_place.Goals as goal

pub returns : goal.returns
returns c = record { whole = each_counted; behind = counted_behind }
