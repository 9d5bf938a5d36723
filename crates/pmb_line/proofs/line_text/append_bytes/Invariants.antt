use Rattle.std.proofs.Common.{◌≡◌, ◌+◌, ◌*◌, ◌++◌, take, length}
use Rattle.pmb_line.specs.Spelling.{bytes}
use Rattle.pmb_line.specs.machine.LineText.{behind}
use Rattle.pmb_line.proofs.line_text.append_bytes.Given as goal

-- the bytes so far
abbrev pub invariant-loop-byte : goal.invariant-loop-byte
invariant-loop-byte g l = record {
  text : l.out.items ≡ l.fn.out.items ++ behind (bytes (take l.byte-index l.bytes));
  len : length l.out.items ≡ length l.fn.out.items + 3 * l.byte-index;
}
