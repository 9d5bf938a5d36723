use Rattle.pmb_spans.proofs.OneSplit.{one_list_of_spans}
use Rattle.pmb_spans.proofs.laws.one_list_of_spans.Goals as goal

pub returns : goal.returns
returns c = λ profile n events a b bus first second.
    one_list_of_spans profile (c.fronts_are_viable.ensures profile) c.events_are_passed_over.ensures.one_way
    c.kinds_are_told_by_events.ensures bus n events a b first second
