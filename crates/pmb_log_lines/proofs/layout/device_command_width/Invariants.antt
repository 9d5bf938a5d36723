use Rattle.std.proofs.Common.{◌≡◌, ◌≤◌, map, take}
use Rattle.pmb_log_lines.specs.Layout.{entry_length, greatest}
use Rattle.pmb_log_lines.proofs.layout.device_command_width.Given as goal

-- the greatest so far
abbrev pub invariant-loop-index : goal.invariant-loop-index
invariant-loop-index l = record {
  width : l.width ≡ greatest (map entry_length (take l.index l.device.commands));
  narrow : l.width ≤ 32;
}
