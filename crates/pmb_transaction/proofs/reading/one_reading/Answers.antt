use Rattle.pmb_transaction.proofs.Readings.{one_reading_from}
use Rattle.pmb_transaction.proofs.reading.one_reading.Goals as goal

pub returns : goal.returns
returns c = λ profile events a b bus first second.
    one_reading_from profile c.kinds_are_told_by_events.ensures bus a b 0 events first second
