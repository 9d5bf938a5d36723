use Rattle.std.proofs.Common.{◌<◌, arith, length, subst}
use Rattle.std.specs.List.{AllByRecursion}
use Rattle.pmb_command.specs.Bus.{IsCommand}
use Rattle.pmb_table.proofs.StandardList.{all_of_some, copy-standard, copy_same, kept_copy}
use Rattle.pmb_table.proofs.standard_commands.StandardCommands.commands.Goals as goal

pub returns-then-len-gt0-clause-commands : goal.returns-then-len-gt0-clause-commands
returns-then-len-gt0-clause-commands c =
    let some : 0 < length c.self.inside.commands = omega arith in
    copy-standard c.self.inside.commands c.in_ok-copy.copy (all_of_some c.self.inside.commands c.self.invariant some)
    c.in_ok-copy.ensures

pub returns-then-len-gt0-clause-accepted : goal.returns-then-len-gt0-clause-accepted
returns-then-len-gt0-clause-accepted c =
    let some : 0 < length c.self.inside.commands = omega arith in
    subst (AllByRecursion IsCommand) (copy_same c.self.inside.commands c.in_ok-copy.copy
    (all_of_some c.self.inside.commands c.self.invariant some) c.in_ok-copy.ensures) c.self.invariant.accepted

pub invariant_of-self : goal.invariant_of-self
invariant_of-self c =
    kept_copy c.in_ok-found.found c.in_ok-kept.kept c.in_ok-found.ensures.commands c.in_ok-found.ensures.own_codes
    c.in_ok-found.ensures.accepted c.in_ok-kept.ensures
