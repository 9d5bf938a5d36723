use Rattle.std.proofs.Common.{◌∙◌, ap, arith, length, map, option_copied, sym}
use Rattle.pmb_sample_fields.specs.Fields.{Begins, Record, comma, record_of, trimmed}
use Rattle.pmb_sample_fields.specs.machine.Columns.{column_from, count_from, row_in}
use Rattle.pmb_sample_fields.proofs.CountLemmas.{most_fields}
use Rattle.pmb_sample_fields.proofs.RowLemmas.{ends_row, whole_row}
use Rattle.pmb_sample_fields.proofs.row.read_row.Goals as goal

pub with_field-row-requires : goal.with_field-row-requires
with_field-row-requires c =
    let most = most_fields comma Begins c.args.line.now in
    let one_more = ap (λ (r : Record). length r.fields) c.in-Field.ensures in
    record { room = omega (arith, most, one_more) }

pub overflow_add-place : goal.overflow_add-place
overflow_add-place c =
    let most = most_fields comma Begins c.args.line.now in
    let one_more = ap (λ (r : Record). length r.fields) c.in-Field.ensures in
    omega (arith, most, one_more)

pub returns-in-End : goal.returns-in-End
returns-in-End c =
    let columns = c.args.columns.now in
    let line = c.args.line.now in
    let row = c.loop-field.row in
    let place = c.loop-field.place in
    let so_far = c.loop-field.invariant in
    whole_row columns line (row_in row) (sym so_far.whole ∙ ap (λ (r : Record). r.is_whole) c.in-End.ensures)
    (ends_row columns (record_of comma line).fields row.count (option_copied row.scl) (option_copied row.sda)
    (option_copied row.time)
    (so_far.count ∙ ap (λ (r : Record). count_from row.count place (map trimmed r.fields)) c.in-End.ensures)
    (so_far.scl
    ∙ ap (λ (r : Record). column_from columns.scl (option_copied row.scl) place (map trimmed r.fields)) c.in-End.ensures)
    (so_far.sda
    ∙ ap (λ (r : Record). column_from columns.sda (option_copied row.sda) place (map trimmed r.fields)) c.in-End.ensures)
    (so_far.time
    ∙ ap (λ (r : Record). column_from columns.time (option_copied row.time) place (map trimmed r.fields))
    c.in-End.ensures))
