use Rattle.std.proofs.Common.{ap, length, arith}
use Rattle.pmb_csv.specs.Fields.{Begins, Record}
use Rattle.pmb_csv.proofs.ColumnLemmas.{most_fields}
use Rattle.pmb_csv.proofs.columns.count_fields.Goals as goal

pub overflow_add-count : goal.overflow_add-count
overflow_add-count c =
    let most = most_fields Begins c.args.line.now in
    let one_more = ap (λ (r : Record). length r.fields) c.in-Field.ensures in
    omega (arith, most, one_more)
