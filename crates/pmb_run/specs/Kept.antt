-- What the types of a profile's parts say of them, beyond what was tested when it was accepted.
use Rattle.std.specs.Prelude.{ℕ, ◌<◌, IfSome, List}
use Rattle.std.specs.List.{AllByRecursion}
use Rattle.pmb_coefficients.specs.Coefficients.{MakeFormat}
use Rattle.pmb_command.specs.Bus.{KeepsRanges}
use Rattle.pmb_command.specs.Parts.{CommandParts, DeviceParts, initial_on}
use Rattle.pmb_command.specs.Wire.{AreByteValues}

-- The number format of a command has an exponent or coefficients in their ranges, and the values that
-- the profile gives its register on a page are bytes. There are 32 pages at most.
pub record IsKeptCommand (command : CommandParts) : Type 0 where
  pub kind : KeepsRanges command.entry.kind
  pub initial : (page : ℕ) → page < 32 → IfSome (initial_on page command.initial) AreByteValues

-- So it is with each command of a device, and the coefficients of its output voltage make a format.
pub record IsKeptDevice (device : DeviceParts) : Type 0 where
  pub vout : IfSome device.vout_direct MakeFormat
  pub commands : AllByRecursion IsKeptCommand device.commands

-- and with each device of a profile
abbrev pub AreKeptDevices : List DeviceParts → Type 0
AreKeptDevices profile = AllByRecursion IsKeptDevice profile
