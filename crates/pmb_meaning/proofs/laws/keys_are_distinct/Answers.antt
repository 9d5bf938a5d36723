use Rattle.pmb_meaning.proofs.SoundLemmas.{fields_are_sound}
use Rattle.pmb_meaning.proofs.laws.keys_are_distinct.Goals as goal

pub returns : goal.returns
returns c = λ code payload fields is. (fields_are_sound code payload fields is).distinct
