use Rattle.pmb_transaction.proofs.Readings.{captures_read_as_written}
use Rattle.pmb_transaction.proofs.reading.captures_read_as_written.Goals as goal

pub returns : goal.returns
returns c = λ profile ts events outcomes bus capture.
    captures_read_as_written profile c.kinds_are_told_by_events.ensures bus ts events outcomes capture
