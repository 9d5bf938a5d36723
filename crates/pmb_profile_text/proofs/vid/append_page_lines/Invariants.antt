use Rattle.std.proofs.Common.{◌≡◌, ◌+◌, ◌*◌, ◌≤◌, ◌++◌, codes, drop, length}
use Rattle.pmb_profile_text.specs.Table.{page_lines}
use Rattle.pmb_profile_text.proofs.vid.append_page_lines.Given as goal

-- with those of the pages from here on, all lines are there
abbrev pub invariant-loop-table : goal.invariant-loop-table
invariant-loop-table l = record {
  text : l.lines.items ++ page_lines l.key l.page (drop l.table-index l.tables)
      ≡ l.fn.lines.items ++ page_lines (codes "vid") 0 l.tables;
  key : length l.key ≤ 3;
  page : l.page ≡ l.table-index;
  short : length l.lines.items ≤ length l.fn.lines.items + 34 * l.table-index;
}
