-- Devices after a STOP: what each knows of the packet that ended, and what it takes of what others took.
use Rattle.std.specs.Prelude.{◌≡◌, ℕ, Bool, true, false, List, [], ◌∷◌, ◌++◌, length, map}
use Rattle.std.specs.List.{list_any}
use Rattle.pmb_command.specs.Parts.{DeviceParts}
use Rattle.pmb_registers.specs.State.{DeviceState, InState}
use Rattle.pmb_device.specs.declared.device.Device.{Device}
use Rattle.pmb_device.specs.Legs.{Legs, Outside}
use Rattle.pmb_device.specs.Device.{DeviceStandsAt, Remembers}
use Rattle.pmb_devices.specs.Stops.{TakesEach}

-- ---- which devices listen

-- there is some other address
abbrev pub has_some : List ℕ → Bool
has_some [] = false
has_some (address ∷ also) = true

-- a device takes what is written at other addresses
abbrev pub listens : DeviceParts → Bool
listens device = has_some device.also

-- some device of a bus does
abbrev pub some_listens : List DeviceParts → Bool
some_listens devices = list_any listens devices

-- ---- devices whose packet ended

abbrev pub devices_of : List InState → List DeviceParts
devices_of members = map (λ member. member.device) members

-- A device stands outside of a packet, and knows what it took in these legs.
pub record HasEnded (legs : Legs) (d : Device) (member : InState) : Type 0 where
  pub stands : DeviceStandsAt d (record { device = member.device; state = member.state; legs = Outside })
  pub remembers : Remembers d member.device legs

-- Each does.
abbrev pub AllEnded : Legs → List Device → List InState → Type 0
AllEnded legs [] [] = Unit {0}
AllEnded legs [] (member ∷ members) = ⊥
AllEnded legs (d ∷ devices) [] = ⊥
AllEnded legs (d ∷ devices) (member ∷ members) = HasEnded legs d member × AllEnded legs devices members

-- ---- what they take

-- a device in another state
abbrev pub with_state : InState → DeviceState → InState
with_state member state = record { device = member.device; state = state }

-- This device stands at a place of a bus whose packet ended.
pub record IsAt (bus : List DeviceParts) (legs : Legs) (devices : List Device) (i : ℕ) (before : List InState)
    (member : InState) (behind : List InState) : Type 0 where
  pub place : length before ≡ i
  pub bus_is : devices_of (before ++ member ∷ behind) ≡ bus
  pub ended : AllEnded legs devices (before ++ member ∷ behind)

-- It went to a state of such a kind, and the others stayed.
pub record Went (legs : Legs) (devices : List Device) (before : List InState) (member : InState)
    (behind : List InState) (Such : DeviceState → Type 0) : Type 0 where
  pub state : DeviceState
  pub such : Such state
  pub ended : AllEnded legs devices (before ++ with_state member state ∷ behind)

-- Each device took what was written at its other addresses.
abbrev pub AllTake : List DeviceParts → Legs → List InState → List InState → Type 0
AllTake bus legs [] [] = Unit {0}
AllTake bus legs [] (new ∷ news) = ⊥
AllTake bus legs (old ∷ olds) [] = ⊥
AllTake bus legs (old ∷ olds) (new ∷ news) =
    (new.device ≡ old.device) × TakesEach bus legs old.device old.device.also old.state new.state
    × AllTake bus legs olds news

-- Up to a place they did, and the others have still to take it.
pub record TookSoFar (bus : List DeviceParts) (legs : Legs) (members : List InState) (devices : List Device)
    (i : ℕ) : Type 0 where
  pub took : List InState
  pub taken : List InState
  pub left : List InState
  pub members_are : members ≡ took ++ left
  pub place : length took ≡ i
  pub takes : AllTake bus legs took taken
  pub ended : AllEnded legs devices (taken ++ left)

-- All did.
pub record HaveTaken (bus : List DeviceParts) (legs : Legs) (members : List InState) (devices : List Device) : Type
    0 where
  pub news : List InState
  pub takes : AllTake bus legs members news
  pub ended : AllEnded legs devices news
