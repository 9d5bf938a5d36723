-- The rows of the code's table of units, as those of the definitions.
use Rattle.pmb_command.specs.declared.units.Row.{Row}
use Rattle.pmb_command.specs.Units.{UnitRow}

abbrev pub row_parts : Row → UnitRow
row_parts r = record { code = r.0; unit = r.1.now }
