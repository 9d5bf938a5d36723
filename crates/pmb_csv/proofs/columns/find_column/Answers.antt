use Rattle.std.proofs.Common.{ap, sym, ◌∙◌, length, arith}
use Rattle.pmb_csv.specs.Fields.{Begins, Record, record_of}
use Rattle.pmb_csv.specs.Left.{column_from}
use Rattle.pmb_csv.proofs.ColumnLemmas.{column_is, most_fields}
use Rattle.pmb_csv.proofs.columns.find_column.Goals as goal

pub overflow_add-count : goal.overflow_add-count
overflow_add-count c =
    let most = most_fields Begins c.args.line.now in
    let one_more = ap (λ (r : Record). length r.fields) c.in-Field.ensures in
    omega (arith, most, one_more)

pub returns-in-End : goal.returns-in-End
returns-in-End c =
    let column = c.loop-field.column in
    column_is c.args.name.now (record_of c.args.line.now) column
    (sym c.loop-field.invariant.whole ∙ ap (λ (r : Record). r.is_whole) c.in-End.ensures.0)
    (c.loop-field.invariant.same
    ∙ ap (λ (r : Record). column_from c.args.name.now column c.loop-field.count r.fields) c.in-End.ensures.0)
