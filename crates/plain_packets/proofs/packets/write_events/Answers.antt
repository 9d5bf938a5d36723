use Rattle.plain_packets.proofs.Stops.{ends}
use Rattle.plain_packets.proofs.packets.write_events.Goals as goal

-- STOP stands after the legs.
pub returns : goal.returns
returns c = rw c.in_ok-push.ensures.items (ends c.in_ok-group.group.items c.in_ok-group.ensures)
