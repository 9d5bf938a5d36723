use Rattle.pmb_bus.proofs.Fronts.{bad_word_spells_none}
use Rattle.pmb_bus.proofs.laws.spelled_has_no_bad_word.Goals as goal

pub returns : goal.returns
returns c = λ text a b i spells bad. bad_word_spells_none text b a i bad spells
