use Rattle.std.proofs.Common.{◌≡◌, ◌+◌, length}
use Rattle.pmb_csv.specs.Fields.{record_of}
use Rattle.pmb_csv.specs.Left.{left}
use Rattle.pmb_csv.proofs.columns.count_fields.Given as goal

-- the fields so far were counted
abbrev pub invariant-loop-count : goal.invariant-loop-count
invariant-loop-count l = record {
  count : l.count + length (left l.fields).fields ≡ length (record_of l.line).fields;
  whole : (left l.fields).is_whole ≡ (record_of l.line).is_whole;
}

abbrev pub decreases-loop-count : goal.decreases-loop-count
decreases-loop-count l = length (left l.fields).fields
