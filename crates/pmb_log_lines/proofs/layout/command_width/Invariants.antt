use Rattle.std.proofs.Common.{◌≡◌, ◌≤◌, map, take}
use Rattle.pmb_log_lines.specs.Layout.{device_command_width, greatest}
use Rattle.pmb_log_lines.proofs.layout.command_width.Given as goal

-- the greatest so far
abbrev pub invariant-loop-index : goal.invariant-loop-index
invariant-loop-index l = record {
  width : l.width ≡ greatest (map device_command_width (take l.index l.profile));
  narrow : l.width ≤ 32;
}
