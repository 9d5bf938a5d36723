use Rattle.std.proofs.Common.{ap, ◌∙◌}
use Rattle.pmb_csv.specs.Fields.{record_of}
use Rattle.pmb_csv.proofs.ColumnLemmas.{needed_by, needed_is}
use Rattle.pmb_csv.proofs.columns.needed_column.Goals as goal

pub returns-in-At : goal.returns-in-At
returns-in-At c = ap needed_by c.in-At.ensures ∙ needed_is c.args.name.now (record_of c.args.line.now)

pub returns-in-Absent : goal.returns-in-Absent
returns-in-Absent c = ap needed_by c.in-Absent.ensures ∙ needed_is c.args.name.now (record_of c.args.line.now)

pub returns-in-Unclear : goal.returns-in-Unclear
returns-in-Unclear c = ap needed_by c.in-Unclear.ensures ∙ needed_is c.args.name.now (record_of c.args.line.now)
