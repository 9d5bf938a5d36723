use Rattle.pmb_transaction.proofs.Readings.{none_read}
use Rattle.pmb_transaction.proofs.reading.nothing_is_read_of_no_events.Goals as goal

pub returns : goal.returns
returns c = λ profile n outcomes reads. none_read profile n outcomes reads
