-- What is changed by what is seen of a spot, layer by layer.
use Rattle.std.specs.Prelude.{ℕ, ◌==◌, ◌&&◌, Bool, if◌then◌else◌, Option, List, [], ◌++◌, slice_get}
use Rattle.pmb_command.specs.Parts.{CommandParts}
use Rattle.pmb_mean.specs.Numbers.{NumberData}
use Rattle.pmb_observed.specs.declared.spot.Spot.{Spot}
use Rattle.pmb_observed.specs.Spot.{same_place, same_spot}
use Rattle.pmb_stats_bits.specs.Bits.{RegisterRead}
use Rattle.pmb_stats_room.specs.declared.command_room.CommandRoom.{CommandRoom}
use Rattle.pmb_stats_room.specs.declared.device_room.DeviceRoom.{DeviceRoom}
use Rattle.pmb_stats_room.specs.declared.room.Room.{Room}
use Rattle.pmb_stats_room.specs.declared.sight.Sight.{Sight}
use Rattle.pmb_stats_room.specs.declared.slot.Slot.{Slot}
use Rattle.pmb_stats_room.specs.machine.Finding.{in_command, in_device, in_room}
use Rattle.pmb_stats_room.specs.machine.Sights.{numbers_in, reads_in}
use Rattle.pmb_stats_room.specs.machine.Standing.{IsKept}

-- What is kept takes what is seen, if it is seen there.
pub record Takes (there : Bool) (sight : Sight) (before after : Option Slot) : Type 0 where
  pub keeps : (command : Option CommandParts) (reads : List RegisterRead) (numbers : List NumberData)
      → IsKept command before reads numbers
      → IsKept command after (reads ++ (if there then reads_in sight else []))
      (numbers ++ (if there then numbers_in sight else []))

pub record SlotsSee (place : ℕ) (sight : Sight) (before after : List Slot) : Type 0 where
  pub each : (i : ℕ) → Takes (place == i) sight (slice_get before i) (slice_get after i)

pub record CommandSees (spot : Spot) (sight : Sight) (before after : CommandRoom) : Type 0 where
  pub each : (other : Spot) → Takes (same_place spot other) sight (in_command before other) (in_command after other)

pub record DeviceSees (spot : Spot) (sight : Sight) (before after : DeviceRoom) : Type 0 where
  pub each : (other : Spot) → Takes ((spot.code == other.code) && same_place spot other) sight (in_device before other)
      (in_device after other)

pub record RoomSees (spot : Spot) (sight : Sight) (before after : Room) : Type 0 where
  pub each : (other : Spot) → Takes (same_spot spot other) sight (in_room before other) (in_room after other)
