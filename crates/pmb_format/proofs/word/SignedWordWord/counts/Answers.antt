use Rattle.pmb_format.proofs.Words.{counts_signed}
use Rattle.pmb_format.proofs.word.SignedWordWord.counts.Goals as goal

pub returns : goal.returns
returns c = counts_signed
