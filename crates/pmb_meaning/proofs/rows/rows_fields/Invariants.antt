use Rattle.std.proofs.Common.{◌≡◌, ◌≤◌, length, map, take}
use Rattle.pmb_meaning.specs.Field.{field_parts}
use Rattle.pmb_meaning.specs.Meaning.{rows_fields}
use Rattle.pmb_meaning.specs.machine.Rows.{row_parts}
use Rattle.pmb_meaning.proofs.rows.rows_fields.Given as goal

-- the fields of the rows so far
abbrev pub invariant-loop-row : goal.invariant-loop-row
invariant-loop-row l = record {
  fields : map field_parts l.fields.items ≡ rows_fields (map row_parts (take l.row-index l.rows)) l.number;
  few : length l.fields.items ≤ l.row-index;
}
