use Rattle.std.proofs.Common.{◌≡◌, ◌+◌, ◌≤◌, take}
use Rattle.pmb_files.specs.Head.{line_after}
use Rattle.pmb_files.proofs.head.line_after.Given as goal

-- the line after the bytes so far
abbrev pub invariant-loop-byte : goal.invariant-loop-byte
invariant-loop-byte l = record {
  number : l.line ≡ line_after (take l.byte-index l.text);
  few : l.line ≤ 1 + l.byte-index;
}
