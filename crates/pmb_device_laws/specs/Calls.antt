-- Calls of `Device::on` and of `Bus::signal`, one after the other.
--
-- The contract of each says where a call leads from every place at which the device, or the bus, may
-- stand. So most definitions here are for both: `X` is the device or the bus, and `StandsAt` and
-- `Moves` are the words of its contract.
use Rattle.std.specs.Prelude.{◌≡◌, List, [], ◌∷◌, map}
use Rattle.pmb_device.specs.declared.signal.HostSignal.{HostSignal}
use Rattle.pmb_device.specs.declared.signal.DeviceSignal.{DeviceSignal}
use Rattle.pmb_device.specs.declared.device.Device.{Device}
use Rattle.pmb_device.specs.Device.{DeviceStandsAt, Moves}
use Rattle.pmb_devices.specs.declared.bus.Bus.{Bus}
use Rattle.pmb_devices.specs.Signal.{BusStandsAt, BusTakes}

-- A call: the signal that was given, the answer to it, and the device or the bus after it.
pub record Call (X : Type 0) : Type 0 where
  pub signal : HostSignal
  pub result : DeviceSignal
  pub after : X

-- the signals of some calls
abbrev pub signals : {X : Type 0} → List (Call X) → List HostSignal
signals calls = map (λ call. call.signal) calls

-- the answers to them
abbrev pub results : {X : Type 0} → List (Call X) → List DeviceSignal
results calls = map (λ call. call.result) calls

-- what was called, after some calls
abbrev pub last_of : {X : Type 0} → X → List (Call X) → X
last_of before [] = before
last_of before (call ∷ calls) = last_of call.after calls

module _ {X Standing : Type 0} (StandsAt : X → Standing → Type 0) where
  -- Two of them stand alike: at one place.
  pub record StandAlike (one other : X) : Type 0 where
    pub standing : Standing
    pub here : StandsAt one standing
    pub there : StandsAt other standing

  -- Calls on each of two go alike: they have the same answers, and after them both stand alike.
  pub record GoAlike (one other : X) (calls others : List (Call X)) : Type 0 where
    pub answers : results calls ≡ results others
    pub stand : StandAlike (last_of one calls) (last_of other others)

  module _ (Moves : Standing → HostSignal → DeviceSignal → X → Type 0) where
    -- Each call does what the contract says, and begins where the one before it ended.
    abbrev pub AreCalls : X → List (Call X) → Type 0
    AreCalls before [] = Unit {0}
    AreCalls before (call ∷ calls) =
        ((standing : Standing) → StandsAt before standing → Moves standing call.signal call.result call.after)
        × AreCalls call.after calls

-- ---- devices

abbrev pub AreDeviceCalls : Device → List (Call Device) → Type 0
AreDeviceCalls before calls = AreCalls DeviceStandsAt Moves before calls

abbrev pub DevicesStandAlike : Device → Device → Type 0
DevicesStandAlike one other = StandAlike DeviceStandsAt one other

abbrev pub DevicesGoAlike : Device → Device → List (Call Device) → List (Call Device) → Type 0
DevicesGoAlike one other calls others = GoAlike DeviceStandsAt one other calls others

-- ---- buses

abbrev pub AreBusCalls : Bus → List (Call Bus) → Type 0
AreBusCalls before calls = AreCalls BusStandsAt BusTakes before calls

abbrev pub BusesStandAlike : Bus → Bus → Type 0
BusesStandAlike one other = StandAlike BusStandsAt one other

abbrev pub BusesGoAlike : Bus → Bus → List (Call Bus) → List (Call Bus) → Type 0
BusesGoAlike one other calls others = GoAlike BusStandsAt one other calls others
