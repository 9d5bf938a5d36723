use Rattle.std.proofs.Common.{ap, ◌∙◌}
use Rattle.pmb_csv.specs.Columns.{field}
use Rattle.pmb_csv.specs.Fields.{Record}
use Rattle.pmb_csv.specs.Left.{left, text_of}
use Rattle.pmb_csv.proofs.ColumnLemmas.{field_behind}
use Rattle.pmb_csv.proofs.columns.field_at.Goals as goal

pub loop-left-preserved : goal.loop-left-preserved
loop-left-preserved c =
    let place = c.loop-left.left in
    c.loop-left.invariant ∙ ap (λ (r : Record). field place r.fields) c.in-Field.ensures
    ∙ field_behind place (text_of c.in-Field.field-0) (left c.next_field.new.self) c.loop-left-test.true
