-- Events inside a packet, before its STOP.
use Rattle.std.specs.Prelude.{◌<◌, ⊤, List}
use Rattle.std.specs.List.{AllByRecursion}
use Rattle.pmb_bus.specs.declared.event.Event.{Event}
use Rattle.pmb_bus.specs.declared.event.Event.TheVariants.{Start, Byte, Ack, Nack, Stop}

-- an event that is no STOP; its byte, if it is one, is below 256
abbrev pub IsInside : Event → Type 0
IsInside Start = ⊤
IsInside (Byte b) = b < 256
IsInside Ack = ⊤
IsInside Nack = ⊤
IsInside Stop = ⊥

abbrev pub AreInside : List Event → Type 0
AreInside events = AllByRecursion IsInside events
