-- What the devices of a bus say of where it stands.
use Rattle.std.specs.Prelude.{◌≡◌, List, [], ◌∷◌, length, map, vec_capacity}
use Rattle.pmb_command.specs.Bus.{IsBus}
use Rattle.pmb_registers.specs.State.{InState}
use Rattle.pmb_device.specs.declared.device.Device.{Device}
use Rattle.pmb_device.specs.Legs.{Legs, Outside}
use Rattle.pmb_device.specs.Device.{DeviceStandsAt}
use Rattle.pmb_devices.specs.declared.bus.Bus.{Bus}
use Rattle.pmb_devices.specs.Bus.{AreAnswered, AnsweredSignal, legs_after}
use Rattle.pmb_devices.specs.Runs.{Runs, first_members}
use Rattle.pmb_devices.specs.machine.Others.{some_listens}

-- What a bus went through since it was made: the stretches that STOP ended; each device with its
-- state after the last STOP, or its first state; and each signal since then, with its answer.
pub record BusStanding : Type 0 where
  pub past : List (List AnsweredSignal)
  pub members : List InState
  pub history : List AnsweredSignal

-- Each device stands after these legs, in its own state.
abbrev pub AllStand : Legs → List Device → List InState → Type 0
AllStand legs [] [] = Unit {0}
AllStand legs [] (member ∷ members) = ⊥
AllStand legs (d ∷ devices) [] = ⊥
AllStand legs (d ∷ devices) (member ∷ members) =
    DeviceStandsAt d (record { device = member.device; state = member.state; legs = legs })
    × AllStand legs devices members

-- A bus stands there. It has memory for just as many devices as there are.
pub record BusStandsAt (bus : Bus) (standing : BusStanding) : Type 0 where
  pub exact : vec_capacity bus.devices ≡ length bus.devices.items
  pub accepted : IsBus bus.profile.now
  pub profile : map (λ member. member.device) standing.members ≡ bus.profile.now
  pub listens : bus.listens ≡ some_listens bus.profile.now
  pub runs : Runs (first_members bus.profile.now) standing.past standing.members
  pub devices : AllStand (legs_after Outside standing.history) bus.devices.items standing.members
  pub answered : AreAnswered standing.members Outside standing.history
