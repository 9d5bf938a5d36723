-- The codes of a device's status registers, as a list.
use Rattle.std.specs.Prelude.{◌≡◌, ℕ, Bool, List, nat_eq}
use Rattle.std.specs.List.{list_any}
use Rattle.pmb_command.specs.Parts.{DeviceParts}
use Rattle.pmb_registers.specs.Apply.{is_status}

-- a code is among those that are listed
abbrev pub is_listed : List ℕ → ℕ → Bool
is_listed codes code = list_any (λ c. nat_eq c code) codes

-- Listed are the codes of the status registers, and no other one.
abbrev pub AreStatusCodes : DeviceParts → List ℕ → Type 0
AreStatusCodes device codes = (code : ℕ) → is_listed codes code ≡ is_status device code
