-- What STOP makes of the devices of a bus: each does what its own leg asks for (`Ends` of `pmb_device`), and
-- takes after that what was written at its other addresses. What it takes there, and in which order, is this
-- project's own rule.
use Rattle.std.specs.Prelude.{◌≡◌, ℕ, Option, Some, None, List, [], ◌∷◌}
use Rattle.pmb_command.specs.Parts.{DeviceParts, device_with}
use Rattle.pmb_transaction.specs.Transaction.{PartData}
use Rattle.pmb_registers.specs.State.{DeviceState, InState}
use Rattle.pmb_registers.specs.Apply.{after_at}
use Rattle.pmb_device.specs.Legs.{Legs}
use Rattle.pmb_device.specs.Ends.{Ends, Took}

-- what a device took in these legs, where there is one
abbrev pub IsTakenBy : Legs → Option DeviceParts → Option PartData → Type 0
IsTakenBy legs None written = written ≡ None
IsTakenBy legs (Some device) written = Took device legs written

module _ (bus : List DeviceParts) (legs : Legs) where
  -- What was written at an address: the complete write that the device there took, or nothing.
  abbrev pub IsWrittenAt : ℕ → Option PartData → Type 0
  IsWrittenAt address written = IsTakenBy legs (device_with address bus) written

  -- A device takes what was written at an address, if that is not its own.
  pub record TakesAt (device : DeviceParts) (address : ℕ) (before after : DeviceState) : Type 0 where
    pub written : Option PartData
    pub is_written : IsWrittenAt address written
    pub after_is : after ≡ after_at device address written before

  -- It does so at some addresses, in their order.
  abbrev pub TakesEach : DeviceParts → List ℕ → DeviceState → DeviceState → Type 0
  TakesEach device [] before after = after ≡ before
  TakesEach device (address ∷ also) before after =
      (between : DeviceState) × TakesAt device address before between × TakesEach device also between after

  -- Where STOP leads a device on this bus.
  pub record EndsOn (device : DeviceParts) (before after : DeviceState) : Type 0 where
    pub between : DeviceState
    pub own : Ends device legs before between
    pub others : TakesEach device device.also between after

  -- Each of some devices goes there.
  abbrev pub EachEnds : List InState → List InState → Type 0
  EachEnds [] [] = Unit {0}
  EachEnds [] (new ∷ news) = ⊥
  EachEnds (old ∷ olds) [] = ⊥
  EachEnds (old ∷ olds) (new ∷ news) =
      (new.device ≡ old.device) × EndsOn old.device old.state new.state × EachEnds olds news
