use Rattle.plain_packets.specs.Stops.{NoneStops}
use Rattle.plain_packets.proofs.legs.push_leg.Given as goal

-- what was put in so far is no STOP
abbrev pub invariant-loop-byte : goal.invariant-loop-byte
invariant-loop-byte l = NoneStops l.fn.events.items → NoneStops l.events.items
