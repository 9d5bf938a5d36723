-- Where a room keeps what it has of a spot.
use Rattle.std.specs.Prelude.{ℕ, Option, Some, None, List, slice_get}
use Rattle.std.specs.Option.{option_and_then}
use Rattle.pmb_observed.specs.declared.spot.Spot.{Spot}
use Rattle.pmb_stats_room.specs.declared.command_room.CommandRoom.{CommandRoom}
use Rattle.pmb_stats_room.specs.declared.device_room.DeviceRoom.{DeviceRoom}
use Rattle.pmb_stats_room.specs.declared.room.Room.{Room}
use Rattle.pmb_stats_room.specs.declared.slot.Slot.{Slot}
use Rattle.pmb_stats_room.specs.machine.Places.{place}

-- what is at an index, and there
abbrev pub at_index : {X : Type 0} → (X → Option Slot) → List X → ℕ → Option Slot
at_index find xs i = option_and_then find (slice_get xs i)

abbrev pub at_place : List Slot → Option ℕ → Option Slot
at_place slots None = None
at_place slots (Some i) = slice_get slots i

abbrev pub in_command : CommandRoom → Spot → Option Slot
in_command command spot = at_place command.slots.items (place command.places spot)

abbrev pub in_device : DeviceRoom → Spot → Option Slot
in_device device spot = at_index (λ command. in_command command spot) device.commands.items spot.code

abbrev pub in_room : Room → Spot → Option Slot
in_room room spot = at_index (λ device. in_device device spot) room.devices.items spot.addr
