use Rattle.std.proofs.Common.{refl}
use Rattle.pmb_command.specs.Commands.{standard_entries, standard_rows}
use Rattle.pmb_command.proofs.commands.rows.Goals as goal

-- the whole table, computed
pub returns : goal.returns
unfolding standard_entries standard_rows
returns c = refl
