use Rattle.std.proofs.Common.{◌≡◌, ◌+◌, ◌++◌, take, length}
use Rattle.pmb_line.proofs.line_text.append.Given as goal

-- the bytes so far
abbrev pub invariant-loop-byte : goal.invariant-loop-byte
invariant-loop-byte g l = record {
  text : l.out.items ≡ l.fn.out.items ++ take l.byte-index l.text;
  len : length l.out.items ≡ length l.fn.out.items + l.byte-index;
}
