use Rattle.pmb_devices.proofs.Runs.{applied_in_turn}
use Rattle.pmb_devices.proofs.laws.transactions_are_applied_in_turn.Goals as goal

pub returns : goal.returns
returns c = λ profile stretches now history ts end bus runs answered reads truncated.
    applied_in_turn profile bus (λ u events packet. c.packet_ends_with_stop.ensures profile u events packet)
    (λ events going. (c.packets_under_way.ensures profile events going.viable).0 going)
    (λ events event reason is. c.refused_events_have_a_reason.ensures.other profile events event reason is)
    stretches now history ts end runs answered reads truncated
