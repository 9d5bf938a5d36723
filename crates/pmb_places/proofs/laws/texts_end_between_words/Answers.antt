use Rattle.pmb_places.proofs.Joins.{both, kept}
use Rattle.pmb_places.proofs.laws.texts_end_between_words.Goals as goal

pub returns : goal.returns
returns c = record { both = both; kept = kept }
