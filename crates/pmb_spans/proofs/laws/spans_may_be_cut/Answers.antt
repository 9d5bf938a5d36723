use Rattle.pmb_spans.proofs.Cuts.{in_pieces, joined, whole}
use Rattle.pmb_spans.proofs.OneSplit.{one_list_of_spans}
use Rattle.pmb_spans.proofs.Outcomes.{some_spans}
use Rattle.pmb_spans.proofs.laws.spans_may_be_cut.Goals as goal

pub returns-clause-joined : goal.returns-clause-joined
returns-clause-joined c = λ profile first second spans others ends w behind.
    joined profile (c.packets_under_way.ensures profile) c.events_are_passed_over.ensures.split
    c.events_are_passed_over.ensures.more
    (c.spans_move.ensures profile) first second spans others ends w behind

pub returns-clause-cut : goal.returns-clause-cut
returns-clause-cut c = λ profile first second both bus ends w.
    in_pieces profile (c.packets_under_way.ensures profile) c.events_are_passed_over.ensures.split
    c.events_are_passed_over.ensures.more
    (c.spans_move.ensures profile) (some_spans profile c.each_list_has_a_reading.ensures bus)
    (
    one_list_of_spans profile (c.fronts_are_viable.ensures profile) c.events_are_passed_over.ensures.one_way
    c.kinds_are_told_by_events.ensures bus
    ) first second both ends w

pub returns-clause-whole : goal.returns-clause-whole
returns-clause-whole c = λ profile first spans ends w. whole profile (c.packets_under_way.ensures profile)
    c.events_are_passed_over.ensures.split first spans ends w
