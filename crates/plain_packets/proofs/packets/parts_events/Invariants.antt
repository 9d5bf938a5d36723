use Rattle.plain_packets.specs.Stops.{NoneStops}
use Rattle.plain_packets.proofs.packets.parts_events.Given as goal

-- the legs so far have no STOP
abbrev pub invariant-loop-index : goal.invariant-loop-index
invariant-loop-index l = NoneStops l.events.items
