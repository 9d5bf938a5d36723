-- What a room holds of what it was told.
use Rattle.std.specs.Prelude.{◌≡◌, ◌<◌, Option, List, option_map}
use Rattle.std.specs.Option.{IfSome, option_and_then}
use Rattle.pmb_command.specs.Parts.{CommandParts, DeviceParts}
use Rattle.pmb_mean.specs.Numbers.{NumberData}
use Rattle.pmb_observed.specs.declared.spot.Spot.{Spot}
use Rattle.pmb_observed.specs.Observed.{Observation, numbers_at, reads_at}
use Rattle.pmb_observed.specs.Spot.{command_on}
use Rattle.pmb_stats_bits.specs.Bits.{RegisterRead}
use Rattle.pmb_stats_room.specs.declared.room.Room.{Room}
use Rattle.pmb_stats_room.specs.declared.slot.Slot.{Slot}
use Rattle.pmb_stats_room.specs.declared.slot.SlotKind.{SlotKind}
use Rattle.pmb_stats_room.specs.machine.Finding.{in_room}
use Rattle.pmb_stats_room.specs.machine.Slots.{HasSeen, kept_as, kind_of}

-- what is kept of a command, if there is one
abbrev pub kept_of : Option CommandParts → Option SlotKind
kept_of command = option_and_then (λ c. kept_as c.entry.kind) command

-- There is a slot if the command has one, and it stands at these reads of a register, or at these numbers.
pub record IsKept (command : Option CommandParts) (slot : Option Slot) (reads : List RegisterRead)
    (numbers : List NumberData) : Type 0 where
  pub kept : option_map kind_of slot ≡ kept_of command
  pub seen : IfSome slot (λ s. HasSeen s reads numbers)

-- a spot as the code has them
pub record IsSpot (spot : Spot) : Type 0 where
  pub addr : spot.addr < 256
  pub code : spot.code < 256

pub record RoomStandsAt (room : Room) (profile : List DeviceParts) (observations : List Observation) : Type 0 where
  pub each : (spot : Spot) → IsSpot spot
      → IsKept (command_on profile spot) (in_room room spot) (reads_at spot observations)
      (numbers_at spot observations)
