use Rattle.std.proofs.Common.{◌≡◌, map, take}
use Rattle.pmb_log_lines.specs.Layout.{page_count, greatest}
use Rattle.pmb_log_lines.proofs.layout.most_pages.Given as goal

-- the greatest so far
abbrev pub invariant-loop-index : goal.invariant-loop-index
invariant-loop-index l = l.most ≡ greatest (map page_count (take l.index l.profile))
