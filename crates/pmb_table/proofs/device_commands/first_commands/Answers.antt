use Rattle.pmb_table.proofs.Accepted.{first_are_of}
use Rattle.pmb_table.proofs.device_commands.first_commands.Goals as goal

pub returns-then-has_standard-clause-accepted : goal.returns-then-has_standard-clause-accepted
returns-then-has_standard-clause-accepted c =
    first_are_of c.commands.result c.commands.ensures.commands c.commands.ensures.accepted
