use Rattle.std.proofs.Common.{ap, ◌∙◌}
use Rattle.pmb_csv.specs.Fields.{record_of}
use Rattle.pmb_csv.proofs.ColumnLemmas.{optional_by, optional_is}
use Rattle.pmb_csv.proofs.columns.optional_column.Goals as goal

pub returns-in-At : goal.returns-in-At
returns-in-At c = ap optional_by c.in-At.ensures ∙ optional_is c.args.name.now (record_of c.args.line.now)

pub returns-in-Absent : goal.returns-in-Absent
returns-in-Absent c = ap optional_by c.in-Absent.ensures ∙ optional_is c.args.name.now (record_of c.args.line.now)

pub returns-in-Unclear : goal.returns-in-Unclear
returns-in-Unclear c = ap optional_by c.in-Unclear.ensures ∙ optional_is c.args.name.now (record_of c.args.line.now)
