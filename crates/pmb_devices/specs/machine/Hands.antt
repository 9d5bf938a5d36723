-- A signal given to devices one after the other.
use Rattle.std.specs.Prelude.{◌≡◌, ℕ, Bool, true, false, List, [], ◌∷◌, ◌++◌, length}
use Rattle.pmb_command.specs.Parts.{DeviceParts}
use Rattle.pmb_registers.specs.State.{InState}
use Rattle.pmb_device.specs.declared.signal.HostSignal.{HostSignal}
use Rattle.pmb_device.specs.declared.signal.HostSignal.TheVariants as signals
use Rattle.pmb_device.specs.declared.signal.DeviceSignal.{DeviceSignal}
use Rattle.pmb_device.specs.declared.signal.DeviceSignal.TheVariants.{Silent, Ack, Nack, Byte}
use Rattle.pmb_device.specs.declared.device.Device.{Device}
use Rattle.pmb_device.specs.Legs.{Legs}
use Rattle.pmb_device.specs.Device.{Moves}
use Rattle.pmb_devices.specs.machine.Others.{AllEnded, HaveTaken, devices_of}
use Rattle.pmb_devices.specs.machine.Standing.{AllStand}

-- one answer, or, where that is silence, another one
abbrev pub or_else : DeviceSignal → DeviceSignal → DeviceSignal
or_else Silent other = other
or_else Ack other = Ack
or_else Nack other = Nack
or_else (Byte b) other = Byte b

-- the last of some answers that is not silence
abbrev pub last_loud : List DeviceSignal → DeviceSignal
last_loud [] = Silent
last_loud (result ∷ results) = or_else (last_loud results) result

-- Each device took the signal and answered this.
abbrev pub AllMoved : Legs → HostSignal → List Device → List InState → List DeviceSignal → Type 0
AllMoved legs signal [] [] [] = Unit {0}
AllMoved legs signal [] [] (result ∷ results) = ⊥
AllMoved legs signal [] (member ∷ members) results = ⊥
AllMoved legs signal (d ∷ devices) [] results = ⊥
AllMoved legs signal (d ∷ devices) (member ∷ members) [] = ⊥
AllMoved legs signal (d ∷ devices) (member ∷ members) (result ∷ results) =
    Moves (record { device = member.device; state = member.state; legs = legs }) signal result d
    × AllMoved legs signal devices members results

-- The devices took the signal, and this is the last answer that is not silence.
pub record HandsOn (legs : Legs) (signal : HostSignal) (members : List InState) (result : DeviceSignal)
    (devices : List Device) : Type 0 where
  pub results : List DeviceSignal
  pub moved : AllMoved legs signal devices members results
  pub last : result ≡ last_loud results

-- The first `count` devices took the signal, and the others have still to take it. This is the last
-- answer that is not silence.
pub record HandsSoFar (legs : Legs) (signal : HostSignal) (members : List InState) (devices : List Device) (count : ℕ)
    (result : DeviceSignal) : Type 0 where
  pub done : List Device
  pub rest : List Device
  pub took : List InState
  pub left : List InState
  pub results : List DeviceSignal
  pub devices_are : devices ≡ done ++ rest
  pub members_are : members ≡ took ++ left
  pub count_is : length done ≡ count
  pub moved : AllMoved legs signal done took results
  pub stand : AllStand legs rest left
  pub last : result ≡ last_loud results

-- ---- STOP

abbrev pub is_stop : HostSignal → Bool
is_stop signals.Start = false
is_stop (signals.Byte b) = false
is_stop signals.Ask = false
is_stop signals.Ack = false
is_stop signals.Nack = false
is_stop signals.Stop = true

-- After STOP each device of a bus took what was written at its other addresses, and after another signal nothing.
abbrev pub TakesAfter : Bool → List DeviceParts → Legs → List Device → List Device → Type 0
TakesAfter false bus legs handed devices = devices ≡ handed
TakesAfter true bus legs handed devices =
    (members : List InState) → devices_of members ≡ bus → AllEnded legs handed members
    → HaveTaken bus legs members devices

-- The devices took the signal, and this is the last answer that is not silence. After STOP each took what was
-- written at its other addresses.
pub record Gives (legs : Legs) (signal : HostSignal) (members : List InState) (result : DeviceSignal)
    (devices : List Device) : Type 0 where
  pub handed : List Device
  pub hands : HandsOn legs signal members result handed
  pub takes : TakesAfter (is_stop signal) (devices_of members) legs handed devices
