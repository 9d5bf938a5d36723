use Rattle.std.proofs.Common.{◌≡◌, [], drop}
use Rattle.std.specs.List.{AllByRecursion}
use Rattle.toml.specs.View.{items_view}
use Rattle.pmb_table.specs.machine.CommandMap.{AreTaken, IsCommandOf}
use Rattle.pmb_command.specs.Parts.{HaveOwnCodes}
use Rattle.pmb_table.specs.Profile.{commands_after}
use Rattle.pmb_table.proofs.device_commands.read_commands.Given as goal

-- the tables from here on answer what all do
abbrev pub invariant-loop-value : goal.invariant-loop-value
invariant-loop-value l = record {
  read : commands_after l.device l.pages l.taken.items l.commands (items_view (drop l.value-index l.values))
      ≡ commands_after l.device l.pages [] l.fn.first (items_view l.values);
  taken : AreTaken l.taken.items;
  own_codes : HaveOwnCodes l.commands;
  accepted : AllByRecursion (IsCommandOf l.pages) l.commands;
}
