use Rattle.std.proofs.Common.{◌≡◌, ◌+◌, ◌*◌, ◌≤◌, ◌++◌, take, length}
use Rattle.pmb_log_data.specs.Text.{each_after_blank}
use Rattle.pmb_log_data.proofs.text.append_each.Given as goal

-- the bytes so far
abbrev pub invariant-loop-byte : goal.invariant-loop-byte
invariant-loop-byte g l = record {
  text : l.out.items ≡ l.fn.out.items ++ each_after_blank (take l.byte-index l.bytes);
  short : length l.out.items ≤ length l.fn.out.items + 3 * l.byte-index;
}
