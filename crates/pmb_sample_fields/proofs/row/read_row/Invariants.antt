use Rattle.std.proofs.Common.{◌≡◌, ◌+◌, [], Some, length, map, option_copied}
use Rattle.pmb_sample_fields.specs.Fields.{comma, record_of, trimmed}
use Rattle.pmb_sample_fields.specs.machine.Columns.{column_from, count_from}
use Rattle.pmb_sample_fields.specs.machine.Left.{left}
use Rattle.pmb_sample_fields.proofs.row.read_row.Given as goal

-- the fields so far, and those that are left
abbrev pub invariant-loop-field : goal.invariant-loop-field
invariant-loop-field l = record {
  count : count_from 0 0 (map trimmed (record_of comma l.line).fields)
      ≡ count_from l.row.count l.place (map trimmed (left l.fields).fields);
  scl : column_from l.columns.scl (Some []) 0 (map trimmed (record_of comma l.line).fields)
      ≡ column_from l.columns.scl (option_copied l.row.scl) l.place (map trimmed (left l.fields).fields);
  sda : column_from l.columns.sda (Some []) 0 (map trimmed (record_of comma l.line).fields)
      ≡ column_from l.columns.sda (option_copied l.row.sda) l.place (map trimmed (left l.fields).fields);
  time : column_from l.columns.time (Some []) 0 (map trimmed (record_of comma l.line).fields)
      ≡ column_from l.columns.time (option_copied l.row.time) l.place (map trimmed (left l.fields).fields);
  passed : l.place + length (left l.fields).fields ≡ length (record_of comma l.line).fields;
  whole : (left l.fields).is_whole ≡ (record_of comma l.line).is_whole;
}

abbrev pub decreases-loop-field : goal.decreases-loop-field
decreases-loop-field l = length (left l.fields).fields
