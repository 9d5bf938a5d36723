use Rattle.std.proofs.Common.{◌≡◌, ◌+◌, ◌*◌, ◌≤◌, ◌++◌, codes, drop, length}
use Rattle.pmb_profile_text.specs.Table.{type_lines}
use Rattle.pmb_profile_text.proofs.vid.append_type_lines.Given as goal

-- with those of the types from here on, all lines are there
abbrev pub invariant-loop-table : goal.invariant-loop-table
invariant-loop-table l = record {
  text : l.lines.items ++ type_lines l.key l.number (drop l.table-index l.tables)
      ≡ l.fn.lines.items ++ type_lines (codes "vid") 0 l.tables;
  key : length l.key ≤ 3;
  number : l.number ≡ l.table-index;
  short : length l.lines.items ≤ length l.fn.lines.items + 34 * l.table-index;
}
