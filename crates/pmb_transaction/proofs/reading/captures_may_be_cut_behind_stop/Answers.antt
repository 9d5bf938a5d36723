use Rattle.pmb_transaction.proofs.Cuts.{in_pieces, joined, whole}
use Rattle.pmb_transaction.proofs.reading.captures_may_be_cut_behind_stop.Goals as goal

pub returns-clause-joined : goal.returns-clause-joined
returns-clause-joined c = λ profile first second outcomes others ends reads behind.
    joined profile first second outcomes others ends reads behind

pub returns-clause-cut : goal.returns-clause-cut
returns-clause-cut c = λ profile first second both bus ends reads.
    in_pieces profile c.pec_is_a_byte.ensures c.kinds_are_told_by_events.ensures bus first second both ends reads

pub returns-clause-whole : goal.returns-clause-whole
returns-clause-whole c = λ profile first outcomes ends reads. whole profile first outcomes ends reads
