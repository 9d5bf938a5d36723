use Rattle.pmb_quantity.proofs.RoundTrip.{reads_back}
use Rattle.pmb_quantity.proofs.laws.text_reads_back.Goals as goal

pub returns : goal.returns
returns c = reads_back
