use Rattle.pmb_places.proofs.Bounds.{behind_in_range, last_end_in_range, last_word_in_range, places_in_range}
use Rattle.pmb_places.proofs.laws.places_are_in_range.Goals as goal

pub returns : goal.returns
returns c = record {
  behind = behind_in_range;
  words = places_in_range;
  last = last_word_in_range;
  end =
      last_end_in_range;
}
