use Rattle.std.proofs.Common.{Some, None, sym}
use Rattle.pmb_command.proofs.UnitLemmas.{unit_is_printable, unit_is_short, unit_of_code}
use Rattle.pmb_command.proofs.units.standard_unit.Goals as goal

pub returns-in-Some-clause-unit : goal.returns-in-Some-clause-unit
returns-in-Some-clause-unit c =
    sym (unit_of_code c.rows.result.now c.args.code (Some c.in-Some.row.now) c.rows.ensures c.in-Some.ensures)

pub returns-in-Some-clause-short : goal.returns-in-Some-clause-short
returns-in-Some-clause-short c =
    unit_is_short c.rows.result.now c.args.code c.in-Some.row.now c.rows.ensures c.in-Some.ensures

pub returns-in-Some-clause-fits : goal.returns-in-Some-clause-fits
returns-in-Some-clause-fits c =
    unit_is_printable c.rows.result.now c.args.code c.in-Some.row.now c.rows.ensures c.in-Some.ensures

pub returns-in-None-clause-unit : goal.returns-in-None-clause-unit
returns-in-None-clause-unit c = sym (unit_of_code c.rows.result.now c.args.code None c.rows.ensures c.in-None.ensures)
