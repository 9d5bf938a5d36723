-- The objects of some addresses.
use Rattle.std.specs.Prelude.{ℕ, Bool, List, filter, map}
use Rattle.pmb_command.specs.Parts.{DeviceParts}
use Rattle.pmb_json_objects.specs.Counts.{DeviceData, counts_object, has_come}
use Rattle.pmb_json_objects.specs.Object.{Object}

-- of those that came, how often
abbrev pub counts_of : List DeviceParts → Bool → (ℕ → DeviceData) → List ℕ → List Object
counts_of profile gives_others counts addresses = map (λ addr. counts_object profile gives_others addr (counts addr))
    (filter (λ addr. has_come (counts addr)) addresses)
