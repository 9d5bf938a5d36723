-- Events that are inside a packet.
use Rattle.std.specs.Prelude.{◌≢◌, List}
use Rattle.std.specs.List.{All}
use Rattle.pmb_bus.specs.declared.event.Event.{Event}
use Rattle.pmb_bus.specs.declared.event.Event.TheVariants.{Stop}

-- none of them is STOP
abbrev pub NoneStops : List Event → Type 0
NoneStops events = All (λ event. event ≢ Stop) events
