-- What `parts` writes of the parts of a board.
use Rattle.std.specs.Prelude.{◌≤◌, ℕ, IsSome, Ok, List, length}
use Rattle.std.specs.List.{AllByRecursion}
use Rattle.pmb_command.specs.Parts.{device_with}
use Rattle.pmb_preamble.specs.Front.{most_profile}
use Rattle.pmb_table.specs.Profile.{ProfileParts, SaysBus}
use Rattle.pmb_parts.specs.declared.boards.Part.{Part}

-- A text is accepted as a profile, is short enough for one, and has a device at the address of each part.
pub record IsBoard (parts : List Part) (text : List ℕ) : Type 0 where
  pub bus : ProfileParts
  pub accepted : SaysBus text (Ok bus)
  pub short : length text ≤ most_profile
  pub each : AllByRecursion (λ part. IsSome (device_with part.address bus.devices)) parts
