-- What is true of the devices of a profile, beside what contracts see of them.
use Rattle.std.specs.Prelude.{ℕ, List, map}
use Rattle.pmb_command.specs.Bus.{IsBus}
use Rattle.pmb_command.specs.Parts.{DeviceParts}
use Rattle.pmb_table.specs.machine.Places.{ArePlaces}

-- the addresses of devices, in their order
abbrev pub addresses_of : List DeviceParts → List ℕ
addresses_of devices = map (λ d. d.address) devices

-- Devices are ones that a bus may have, and each is found by its address.
pub record IsFoundByAddress (devices : List DeviceParts) (kept : List ℕ) : Type 0 where
  pub bus : IsBus devices
  pub places : ArePlaces kept (addresses_of devices)
