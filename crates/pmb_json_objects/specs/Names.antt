-- The refused event as it is named.
use Rattle.std.specs.Prelude.{Option, Some, None, [], ◌∷◌, codes}
use Rattle.pmb_bus.specs.declared.event.Event.{Event}
use Rattle.pmb_bus.specs.declared.event.Event.TheVariants.{Start, Byte, Ack, Nack, Stop}
use Rattle.pmb_json_text.specs.Json.{Json, null, string}
use Rattle.pmb_json_text.specs.Member.{digits}

-- an event: a byte by its digits
abbrev pub event_value : Event → Json
event_value Start = string (codes "Start")
event_value (Byte b) = digits (b ∷ [])
event_value Ack = string (codes "Ack")
event_value Nack = string (codes "Nack")
event_value Stop = string (codes "Stop")

-- the refused event; none where the events ended
abbrev pub got_value : Option Event → Json
got_value None = null
got_value (Some event) = event_value event
