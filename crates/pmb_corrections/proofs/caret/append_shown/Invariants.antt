use Rattle.std.proofs.Common.{◌≡◌, ◌+◌, ◌*◌, ◌++◌, ◌≤◌, length, take}
use Rattle.std.specs.List.{flat_map}
use Rattle.pmb_corrections.specs.Marked.{shown_byte}
use Rattle.pmb_corrections.proofs.caret.append_shown.Given as goal

-- the bytes so far
abbrev pub invariant-loop-byte : goal.invariant-loop-byte
invariant-loop-byte l = record {
  text : l.text.items ≡ l.fn.text.items ++ flat_map shown_byte (take l.byte-index l.bytes);
  len : length l.text.items ≤ length l.fn.text.items + 4 * l.byte-index;
}
