-- How the room of a profile begins, layer by layer.
use Rattle.std.specs.Prelude.{◌≡◌, ℕ, ◌<◌, Option, Some, List, [], length, slice_get}
use Rattle.pmb_command.specs.Parts.{CommandParts, DeviceParts, device_with}
use Rattle.pmb_observed.specs.declared.spot.Spot.{Spot}
use Rattle.pmb_observed.specs.Spot.{command_if, command_in}
use Rattle.pmb_json_objects.specs.Seen.{command_of}
use Rattle.pmb_stats_room.specs.declared.command_room.CommandRoom.{CommandRoom}
use Rattle.pmb_stats_room.specs.declared.device_room.DeviceRoom.{DeviceRoom}
use Rattle.pmb_stats_room.specs.declared.places.Places.{Places}
use Rattle.pmb_stats_room.specs.declared.slot.Slot.{Slot}
use Rattle.pmb_stats_room.specs.declared.slot.SlotKind.{SlotKind}
use Rattle.pmb_stats_room.specs.machine.Finding.{in_command, in_device}
use Rattle.pmb_stats_room.specs.machine.Places.{place_count}
use Rattle.pmb_stats_room.specs.machine.Slots.{IsFresh}
use Rattle.pmb_stats_room.specs.machine.Standing.{IsKept}

-- so many slots, in which nothing was seen
pub record AreFresh (kind : SlotKind) (count : ℕ) (slots : List Slot) : Type 0 where
  pub long : length slots ≡ count
  pub each : (i : ℕ) (slot : Slot) → slice_get slots i ≡ Some slot → IsFresh kind slot

-- such slots, one for each place of a command's pages and phases
pub record HasFreshSlots (kind : SlotKind) (places : Places) (room : CommandRoom) : Type 0 where
  pub places_are : room.places ≡ places
  pub fresh : AreFresh kind (place_count places) room.slots.items

pub record BeginsCommand (device : DeviceParts) (command : Option CommandParts) (room : CommandRoom) : Type 0 where
  pub each : (spot : Spot) → IsKept (command_if device spot command) (in_command room spot) [] []

pub record BeginsDevice (device : Option DeviceParts) (room : DeviceRoom) : Type 0 where
  pub each : (spot : Spot) → spot.code < 256 → IsKept (command_in device spot) (in_device room spot) [] []

-- so many codes of a device, or addresses of a profile
pub record BeginCodes (device : DeviceParts) (count : ℕ) (rooms : List CommandRoom) : Type 0 where
  pub long : length rooms ≡ count
  pub each : (code : ℕ) (room : CommandRoom) → slice_get rooms code ≡ Some room
      → BeginsCommand device (command_of (Some device) code) room

pub record BeginAddresses (profile : List DeviceParts) (count : ℕ) (rooms : List DeviceRoom) : Type 0 where
  pub long : length rooms ≡ count
  pub each : (addr : ℕ) (room : DeviceRoom) → slice_get rooms addr ≡ Some room
      → BeginsDevice (device_with addr profile) room
