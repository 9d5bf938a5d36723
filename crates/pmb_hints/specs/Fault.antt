-- The line that is written of a profile's fault.
use Rattle.std.specs.Prelude.{ℕ, List, [], ◌++◌, codes, decimal, Option, Some, None}
use Rattle.pmb_keys.specs.declared.fault.FaultKind.{FaultKind}
use Rattle.pmb_keys.specs.declared.fault.FaultKind.TheVariants as kind
use Rattle.pmb_table.specs.declared.fault.ProfileFault.{ProfileFault}

-- what is wrong, by its name
abbrev pub fault_name : FaultKind → List ℕ
fault_name kind.NotToml = codes "NotToml"
fault_name kind.UnknownKey = codes "UnknownKey"
fault_name kind.MissingKey = codes "MissingKey"
fault_name kind.WrongType = codes "WrongType"
fault_name kind.TooManyDevices = codes "TooManyDevices"
fault_name kind.BadAddress = codes "BadAddress"
fault_name kind.AddressTwice = codes "AddressTwice"
fault_name kind.BadValue = codes "BadValue"
fault_name kind.BadPages = codes "BadPages"
fault_name kind.UnknownName = codes "UnknownName"
fault_name kind.BadName = codes "BadName"
fault_name kind.BadForm = codes "BadForm"
fault_name kind.BadCoefficients = codes "BadCoefficients"
fault_name kind.CodeTwice = codes "CodeTwice"
fault_name kind.BadInitial = codes "BadInitial"
fault_name kind.OutOfMemory = codes "OutOfMemory"

-- a number after a word, where there is one
abbrev pub numbered : List ℕ → Option ℕ → List ℕ
numbered word None = []
numbered word (Some number) = word ++ decimal number

-- the name, and the device and the command where the fault has them, each counted from 0
abbrev pub fault_line : ProfileFault → List ℕ
fault_line fault = codes "profile: " ++ fault_name fault.what ++ numbered (codes " in device ") fault.device
    ++ numbered (codes " command ") fault.command ++ codes "\n"
