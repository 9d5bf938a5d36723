use Rattle.pmb_transaction.proofs.ReadFronts.{fronts_read_as_fronts}
use Rattle.pmb_transaction.proofs.reading.fronts_read_as_fronts.Goals as goal

pub returns : goal.returns
returns c = λ profile ts events more outcomes bus capture reads.
    fronts_read_as_fronts c.pec_is_a_byte.ensures profile bus c.kinds_are_told_by_events.ensures ts events more outcomes
    capture reads
