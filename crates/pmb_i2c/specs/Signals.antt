-- Signals that a bus of simulated devices was given, one after the other.
use Rattle.std.specs.Prelude.{◌≡◌, List, [], ◌∷◌, ◌++◌, map}
use Rattle.pmb_bus.specs.declared.event.Event.{Event}
use Rattle.pmb_command.specs.Parts.{DeviceParts}
use Rattle.pmb_devices.specs.declared.bus.Bus.{Bus}
use Rattle.pmb_devices.specs.Bus.{AnsweredSignal}
use Rattle.pmb_devices.specs.Signal.{BusStanding, BusStandsAt, BusTakes}
use Rattle.pmb_i2c.specs.Wire.{wire_events}

-- A bus that stood here took these signals in turn, and each had this answer. Each does what `BusTakes`
-- says of it, wherever the bus stood after those before it.
abbrev pub TakesInTurn : BusStanding → List AnsweredSignal → Bus → Type 0
TakesInTurn standing [] new = BusStandsAt new standing
TakesInTurn standing (one ∷ more) new =
    (middle : Bus) × BusTakes standing one.signal one.result middle
    × ((next : BusStanding) → BusStandsAt middle next → TakesInTurn next more new)

-- A bus of these devices stands between two transfers: the last signal that it was given, if any, is STOP.
pub record IsStopped (devices : List DeviceParts) (bus : Bus) : Type 0 where
  pub standing : BusStanding
  pub devices_are : map (λ member. member.device) standing.members ≡ devices
  pub stands : BusStandsAt bus standing
  pub none : standing.history ≡ []

-- A bus was given such signals, and had these answers: wherever it stood, it took them in turn, and a
-- listener heard what is on the wire of them, in order.
pub record Gives (Such : List AnsweredSignal → Type 0) (old new : Bus) (Before After : List Event → Type 0) : Type
    0 where
  pub heard : List AnsweredSignal
  pub such : Such heard
  pub takes : (standing : BusStanding) → BusStandsAt old standing → TakesInTurn standing heard new
  pub told : (earlier : List Event) → Before earlier → After (earlier ++ wire_events heard)
