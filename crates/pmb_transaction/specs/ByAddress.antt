-- What is kept of each device of a bus, in a list with a place for each address.
use Rattle.std.specs.Prelude.{◌≡◌, ℕ, Some, List, length, slice_get}
use Rattle.pmb_command.specs.Bus.{IsBus}
use Rattle.pmb_command.specs.Parts.{DeviceParts, device_with}

-- At the address of each device of an accepted profile this is kept of it.
pub record KeptByAddress {A : Type 0} (kept : List A) (profile : List DeviceParts)
    (now : DeviceParts → A) : Type 0 where
  pub bus : IsBus profile
  pub long : length kept ≡ 128
  pub each : (addr : ℕ) (device : DeviceParts) → device_with addr profile ≡ Some device
      → slice_get kept addr ≡ Some (now device)
