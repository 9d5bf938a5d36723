use Rattle.std.proofs.Common.{◌≡◌, ◌+◌, ◌*◌, ◌≤◌, ◌++◌, take, length}
use Rattle.pmb_json_text.specs.Spelling.{all_escaped}
use Rattle.pmb_log_data.proofs.text.append_escaped.Given as goal

-- the bytes so far
abbrev pub invariant-loop-byte : goal.invariant-loop-byte
invariant-loop-byte g l = record {
  text : l.out.items ≡ l.fn.out.items ++ all_escaped (take l.byte-index l.bytes);
  short : length l.out.items ≤ length l.fn.out.items + 6 * l.byte-index;
}
