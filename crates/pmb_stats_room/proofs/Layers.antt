-- What is seen of a spot, handed to the layer below: for `see` of a device and of a room.
use Rattle.std.proofs.Common.{◌≡◌, ℕ, ◌==◌, ◌&&◌, Some, None, refl, slice_get, subst}
use Rattle.std.specs.Option.{option_and_then}
use Rattle.std.specs.Vec.{with_item}
use Rattle.pmb_observed.specs.declared.spot.Spot.{Spot}
use Rattle.pmb_observed.specs.Spot.{same_place}
use Rattle.pmb_stats_room.specs.declared.command_room.CommandRoom.{CommandRoom}
use Rattle.pmb_stats_room.specs.declared.device_room.DeviceRoom.{DeviceRoom}
use Rattle.pmb_stats_room.specs.declared.room.Room.{Room}
use Rattle.pmb_stats_room.specs.declared.sight.Sight.{Sight}
use Rattle.pmb_stats_room.specs.machine.Finding.{in_command, in_device, in_room}
use Rattle.pmb_stats_room.specs.machine.Seeing.{CommandSees, DeviceSees, RoomSees, Takes}
use Rattle.pmb_stats_room.proofs.Taking.{index_lacks, index_takes}

module _ (spot : Spot) (sight : Sight) (before : DeviceRoom) where
  pub device_takes : (i : ℕ) (x y : CommandRoom) → i ≡ spot.code → slice_get before.commands.items i ≡ Some x
      → CommandSees spot sight x y
      → DeviceSees spot sight before (record { commands = with_item before.commands i y })
  device_takes i x y here is sees = record {
    each = λ other.
        subst (λ k. Takes ((k == other.code) && same_place spot other) sight (in_device before other)
        (in_device (record { commands = with_item before.commands i y }) other)) here
        (index_takes (option_and_then (λ command. in_command command other)) before.commands.items i other.code
        x y (same_place spot other) sight is (sees.each other));
  }

  pub device_lacks : (i : ℕ) → i ≡ spot.code → slice_get before.commands.items i ≡ None
      → DeviceSees spot sight before before
  device_lacks i here is = record {
    each = λ other.
        subst (λ k. Takes ((k == other.code) && same_place spot other) sight (in_device before other)
        (in_device before other)) here
        (index_lacks (option_and_then (λ command. in_command command other)) before.commands.items i other.code
        (same_place spot other) sight is refl);
  }

module _ (spot : Spot) (sight : Sight) (before : Room) where
  pub room_takes : (i : ℕ) (x y : DeviceRoom) → i ≡ spot.addr → slice_get before.devices.items i ≡ Some x
      → DeviceSees spot sight x y → RoomSees spot sight before (record { devices = with_item before.devices i y })
  room_takes i x y here is sees = record {
    each = λ other.
        subst (λ k. Takes ((k == other.addr) && ((spot.code == other.code) && same_place spot other)) sight
        (in_room before other) (in_room (record { devices = with_item before.devices i y }) other)) here
        (index_takes (option_and_then (λ device. in_device device other)) before.devices.items i other.addr
        x y ((spot.code == other.code) && same_place spot other) sight is (sees.each other));
  }

  pub room_lacks : (i : ℕ) → i ≡ spot.addr → slice_get before.devices.items i ≡ None
      → RoomSees spot sight before before
  room_lacks i here is = record {
    each = λ other.
        subst (λ k. Takes ((k == other.addr) && ((spot.code == other.code) && same_place spot other)) sight
        (in_room before other) (in_room before other)) here
        (index_lacks (option_and_then (λ device. in_device device other)) before.devices.items i other.addr
        ((spot.code == other.code) && same_place spot other) sight is refl);
  }
