-- A room in which nothing was seen: for `new` of each layer.
use Rattle.std.proofs.Common.{◌≡◌, ℕ, ◌<◌, Bool, true, false, if◌then◌else◌, ap}
use Rattle.std.proofs.Common.{Option, Some, None, List, [], length, arith, refl, slice_get, subst, sym, ◌∙◌, inl, inr}
use Rattle.std.specs.Option.{option_and_then}
use Rattle.std.proofs.lemmas.Option.{slice_get_cases}
use Rattle.pmb_command.specs.Parts.{CommandParts, DeviceParts}
use Rattle.pmb_observed.specs.declared.spot.Spot.{Spot}
use Rattle.pmb_observed.specs.Spot.{command_if, command_in, command_on, has_place}
use Rattle.pmb_stats_room.specs.declared.command_room.CommandRoom.{CommandRoom}
use Rattle.pmb_stats_room.specs.declared.device_room.DeviceRoom.{DeviceRoom}
use Rattle.pmb_stats_room.specs.declared.places.Places.{Places}
use Rattle.pmb_stats_room.specs.declared.room.Room.{Room}
use Rattle.pmb_stats_room.specs.declared.slot.Slot.{Slot}
use Rattle.pmb_stats_room.specs.declared.slot.SlotKind.{SlotKind}
use Rattle.pmb_stats_room.specs.machine.Beginning.{AreFresh, BeginAddresses, BeginCodes, BeginsCommand, HasFreshSlots}
use Rattle.pmb_stats_room.specs.machine.Beginning.{BeginsDevice}
use Rattle.pmb_stats_room.specs.machine.Finding.{at_place, in_command, in_device}
use Rattle.pmb_stats_room.specs.machine.Places.{place, place_count, places_of}
use Rattle.pmb_stats_room.specs.machine.Slots.{kept_as}
use Rattle.pmb_stats_room.specs.machine.Standing.{IsKept, RoomStandsAt, kept_of}
use Rattle.pmb_stats_room.proofs.SpotPlaces.{HasPlace, spot_has_place}

-- what is within a list is there
found_within : {X : Type 0} (P : Option X → Type 0) (xs : List X) (n i : ℕ) → length xs ≡ n → i < n
    → ((x : X) → slice_get xs i ≡ Some x → P (Some x)) → P (slice_get xs i)
found_within P xs n i long within here =
    elim (slice_get_cases xs i).1 [
      | inl at ↦ subst P (sym at.2) (here at.0 at.2)
      | inr past ↦ absurd (omega (arith, past.0))
    ]

-- ---- a command

fresh_at : (command : CommandParts) (kind : SlotKind) (count : ℕ) (slots : List Slot) (has : Bool) (found : Option ℕ)
    → kept_as command.entry.kind ≡ Some kind → AreFresh kind count slots → HasPlace count has found
    → IsKept (if has then Some command else None) (at_place slots found) [] []
fresh_at command kind count slots true None kept fresh at = absurd at
fresh_at command kind count slots true (Some i) kept fresh at =
    found_within (λ slot. IsKept (Some command) slot [] []) slots count i fresh.long at
    (λ slot is. record {
      kept = ap Some (fresh.each i slot is).is ∙ sym kept;
      seen = (fresh.each i slot is).unseen;
    })
fresh_at command kind count slots false None kept fresh at = record { kept = refl; seen = tt }
fresh_at command kind count slots false (Some i) kept fresh at = absurd at

pub begins_kept : (device : DeviceParts) (command : CommandParts) (kind : SlotKind) (places : Places)
    (room : CommandRoom) → kept_as command.entry.kind ≡ Some kind → places ≡ places_of device command
    → HasFreshSlots kind places room → BeginsCommand device (Some command) room
begins_kept device command kind places room kept same has = record {
  each = λ spot.
      subst (λ ps. IsKept (command_if device spot (Some command)) (at_place room.slots.items (place ps spot)) [] [])
      (sym (has.places_are ∙ same))
      (fresh_at command kind (place_count (places_of device command)) room.slots.items
      (has_place device command spot) (place (places_of device command) spot) kept
      (subst (λ ps. AreFresh kind (place_count ps) room.slots.items) same has.fresh)
      (spot_has_place device command spot));
}

-- nothing is in no slots
in_none : (found : Option ℕ) → at_place [] found ≡ None
in_none None = refl
in_none (Some i) = refl

in_empty : (room : CommandRoom) (spot : Spot) → room.slots.items ≡ [] → in_command room spot ≡ None
in_empty room spot none =
    ap (λ slots. at_place slots (place room.places spot)) none ∙ in_none (place room.places spot)

unkept : (command : CommandParts) (has : Bool) → kept_as command.entry.kind ≡ None
    → kept_of (if has then Some command else None) ≡ None
unkept command true none = none
unkept command false none = refl

pub begins_unkept : (device : DeviceParts) (command : CommandParts) (room : CommandRoom)
    → kept_as command.entry.kind ≡ None → room.slots.items ≡ [] → BeginsCommand device (Some command) room
begins_unkept device command room none empty = record {
  each = λ spot. subst (λ slot. IsKept (command_if device spot (Some command)) slot [] [])
      (sym (in_empty room spot empty))
      (record { kept = sym (unkept command (has_place device command spot) none); seen = tt });
}

pub begins_lacking : (device : DeviceParts) (room : CommandRoom) → room.slots.items ≡ []
    → BeginsCommand device None room
begins_lacking device room empty = record {
  each = λ spot. subst (λ slot. IsKept None slot [] []) (sym (in_empty room spot empty))
      (record { kept = refl; seen = tt });
}

-- ---- a device, and a profile

pub begins_device : (device : DeviceParts) (room : DeviceRoom) → BeginCodes device 256 room.commands.items
    → BeginsDevice (Some device) room
begins_device device room begin = record {
  each = λ spot small.
      found_within (λ (found : Option CommandRoom). IsKept (command_in (Some device) spot)
      (option_and_then (λ command. in_command command spot) found) [] [])
      room.commands.items 256 spot.code begin.long small
      (λ command is. (begin.each spot.code command is).each spot);
}

pub begins_room : (profile : List DeviceParts) (room : Room) → BeginAddresses profile 256 room.devices.items
    → RoomStandsAt room profile []
begins_room profile room begin = record {
  each = λ spot small.
      found_within (λ (found : Option DeviceRoom). IsKept (command_on profile spot)
      (option_and_then (λ device. in_device device spot) found) [] [])
      room.devices.items 256 spot.addr begin.long small.addr
      (λ device is. (begin.each spot.addr device is).each spot small.code);
}
