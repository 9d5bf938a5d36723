use Rattle.pmb_samples.proofs.ReadsLaw.{tells_reads}
use Rattle.pmb_samples.proofs.laws.tells_its_reads.Goals as goal

pub returns : goal.returns
returns c = tells_reads c.reads_all_pieces.ensures
