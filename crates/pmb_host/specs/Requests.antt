-- What the types of a request and of a profile's coefficients say of them.
use Rattle.std.specs.Prelude.{◌≡◌, ℕ, ◌<◌, ◌≤◌, Some, IfSome, List, length}
use Rattle.pmb_coefficients.specs.Coefficients.{MakeFormat}
use Rattle.pmb_command.specs.Parts.{DeviceParts, device_with}
use Rattle.pmb_request.specs.Request.{RequestData, WriteParts, ReadBytes, CallBytes, Set, Get}

-- A write has no more parts than there is room for, and a quantity that is set is one.
abbrev pub IsSound : RequestData → Type 0
IsSound (WriteParts parts) = length parts ≤ 16
IsSound (ReadBytes c) = Unit {0}
IsSound (CallBytes c bytes) = Unit {0}
IsSound (Set c value mode) = 0 < value.denominator
IsSound (Get c mode) = Unit {0}

-- The coefficients of each device's output voltage make a format.
abbrev pub MakeFormats : List DeviceParts → Type 0
MakeFormats profile = (address : ℕ) (device : DeviceParts) → device_with address profile ≡ Some device
    → IfSome device.vout_direct MakeFormat
