use Rattle.std.proofs.Common.{◌≡◌, ◌+◌, length}
use Rattle.pmb_csv.specs.Fields.{record_of}
use Rattle.pmb_csv.specs.Left.{column_from, left}
use Rattle.pmb_csv.specs.declared.columns.Column.TheVariants.{Absent}
use Rattle.pmb_csv.proofs.columns.find_column.Given as goal

-- the names so far were compared
abbrev pub invariant-loop-field : goal.invariant-loop-field
invariant-loop-field l = record {
  same : column_from l.name Absent 0 (record_of l.line).fields
      ≡ column_from l.name l.column l.count (left l.fields).fields;
  count : l.count + length (left l.fields).fields ≡ length (record_of l.line).fields;
  whole : (left l.fields).is_whole ≡ (record_of l.line).is_whole;
}

abbrev pub decreases-loop-field : goal.decreases-loop-field
decreases-loop-field l = length (left l.fields).fields
