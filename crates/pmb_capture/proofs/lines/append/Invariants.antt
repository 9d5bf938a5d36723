use Rattle.std.proofs.Common.{◌≡◌, ◌+◌, ◌++◌, take, length}
use Rattle.pmb_capture.proofs.lines.append.Given as goal

-- the bytes so far
abbrev pub invariant-loop-byte : goal.invariant-loop-byte
invariant-loop-byte g l = record {
  text : l.line.items ≡ l.fn.line.items ++ take l.byte-index l.text;
  len : length l.line.items ≡ length l.fn.line.items + l.byte-index;
}
