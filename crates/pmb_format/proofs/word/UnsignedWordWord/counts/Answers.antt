use Rattle.pmb_format.proofs.Words.{counts_unsigned}
use Rattle.pmb_format.proofs.word.UnsignedWordWord.counts.Goals as goal

pub returns : goal.returns
returns c = counts_unsigned
