use Rattle.std.proofs.Common.{◌≡◌, take}
use Rattle.pmb_io.specs.Lines.{HasNoLf}
use Rattle.pmb_telling.proofs.word_end.line_bytes.Given as goal

-- no LF so far
abbrev pub invariant-loop-byte : goal.invariant-loop-byte
invariant-loop-byte l = record {
  counted : l.count ≡ l.byte-index;
  in_line : HasNoLf (take l.byte-index l.bytes);
}
