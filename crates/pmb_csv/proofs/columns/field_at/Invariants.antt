use Rattle.std.proofs.Common.{◌≡◌}
use Rattle.pmb_csv.specs.Columns.{field}
use Rattle.pmb_csv.specs.Fields.{record_of}
use Rattle.pmb_csv.specs.Left.{left}
use Rattle.pmb_csv.proofs.columns.field_at.Given as goal

-- it is the same among those that are left
abbrev pub invariant-loop-left : goal.invariant-loop-left
invariant-loop-left l = field l.place (record_of l.line).fields ≡ field l.left (left l.fields).fields

abbrev pub decreases-loop-left : goal.decreases-loop-left
decreases-loop-left l = l.left
