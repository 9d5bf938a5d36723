use Rattle.pmb_bus.proofs.Spelling.{one_bad_word}
use Rattle.pmb_bus.proofs.laws.one_bad_word.Goals as goal

pub returns : goal.returns
returns c = one_bad_word
