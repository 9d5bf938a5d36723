use Rattle.std.proofs.Common.{◌≡◌, ◌≤◌, map, take}
use Rattle.pmb_log_lines.specs.Layout.{greatest}
use Rattle.pmb_stats_table.specs.Widths.{device_phase_width}
use Rattle.pmb_stats_table.proofs.widths.phase_width.Given as goal

-- the greatest so far
abbrev pub invariant-loop-index : goal.invariant-loop-index
invariant-loop-index l = record {
  width : l.width ≡ greatest (map device_phase_width (take l.index l.profile));
  narrow : l.width ≤ 5;
}
