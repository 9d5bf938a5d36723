-- The standard commands that are kept while a profile is read.
use Rattle.std.specs.Prelude.{◌≡◌, ◌⊎◌, List, []}
use Rattle.std.specs.List.{AllByRecursion}
use Rattle.pmb_command.specs.Bus.{IsCommand}
use Rattle.pmb_command.specs.Parts.{CommandParts, HaveOwnCodes}
use Rattle.pmb_table.specs.Profile.{standard_commands}

-- all of the standard commands, or none of them
pub record AreAllOrNone (commands : List CommandParts) : Type 0 where
  pub all_or_none : (commands ≡ []) ⊎ (commands ≡ standard_commands)
  pub own_codes : HaveOwnCodes commands
  pub accepted : AllByRecursion IsCommand commands
