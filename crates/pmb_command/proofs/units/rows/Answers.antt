use Rattle.std.proofs.Common.{refl}
use Rattle.pmb_command.specs.Units.{unit_rows}
use Rattle.pmb_command.proofs.units.rows.Goals as goal

-- the whole table, computed
pub returns : goal.returns
unfolding unit_rows
returns c = refl
