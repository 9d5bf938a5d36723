use Rattle.std.proofs.Common.{◌≡◌, ◌++◌, map}
use Rattle.pmb_table.specs.machine.CommandMap.{bare_entry}
use Rattle.pmb_table.proofs.command_map.bare_copy.Given as goal

-- with those that are left, all are copied
abbrev pub invariant-loop-code : goal.invariant-loop-code
invariant-loop-code l = l.copy.entries ++ map bare_entry l.code-iterator ≡ map bare_entry l.commands.entries
