-- What a `PartialPacket` keeps of the events that it was given.
use Rattle.std.specs.Prelude.{◌≡◌, List, reverse}
use Rattle.pmb_bus.specs.declared.event.Event.{Event}
use Rattle.pmb_bus.specs.Pec.{pec}
use Rattle.pmb_partial_packet.specs.declared.partial_packet.PartialPacket.{PartialPacket}
use Rattle.pmb_partial_packet.specs.machine.KeptLegs.{KeepsLegs}
use Rattle.pmb_partial_packet.specs.PartialPacket.{all_bytes, but_last, last_leg, leg_or_none, legs}

pub record SaidStandsAt (said : PartialPacket) (events : List Event) : Type 0 where
  pub legs : KeepsLegs said.legs (reverse (legs events))
  -- the packet error codes of all bytes, of those of the last leg, and of the latter without the
  -- last one
  pub all : pec (all_bytes events) ≡ said.all
  pub leg : pec (leg_or_none (last_leg events)) ≡ said.leg
  pub before : pec (but_last (leg_or_none (last_leg events))) ≡ said.before
