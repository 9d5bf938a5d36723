use Rattle.std.proofs.Common.{◌≡◌, ◌+◌, ◌*◌, ◌++◌, length, take}
use Rattle.std.specs.List.{flat_map}
use Rattle.pmb_profile_text.specs.Words.{digits}
use Rattle.pmb_profile_text.proofs.first_bytes.append_bytes.Given as goal

-- the bytes so far
abbrev pub invariant-loop-byte : goal.invariant-loop-byte
invariant-loop-byte l = record {
  text : l.row.items ≡ l.fn.row.items ++ flat_map digits (take l.byte-index l.bytes);
  len : length l.row.items ≡ length l.fn.row.items + 2 * l.byte-index;
}
