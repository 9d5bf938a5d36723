use Rattle.pmb_io.proofs.LineLemmas.{cut_is}
use Rattle.pmb_io.proofs.laws.lines_are_the_text.Goals as goal

pub returns : goal.returns
returns c = cut_is
