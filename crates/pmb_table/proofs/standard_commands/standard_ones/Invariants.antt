use Rattle.std.proofs.Common.{◌≡◌}
use Rattle.pmb_command.specs.Parts.{HaveOwnCodes}
use Rattle.std.specs.List.{AllByRecursion}
use Rattle.pmb_command.specs.Bus.{IsCommand}
use Rattle.pmb_table.proofs.StandardList.{standard_from}
use Rattle.pmb_table.proofs.standard_commands.standard_ones.Given as goal

-- the commands are those of the codes so far
abbrev pub invariant-loop-code : goal.invariant-loop-code
invariant-loop-code l = record {
  commands : l.commands ≡ standard_from 0 l.code;
  own_codes : HaveOwnCodes l.commands;
  accepted : AllByRecursion IsCommand l.commands;
}
