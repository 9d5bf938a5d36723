use Rattle.std.proofs.Common.{◌≡◌, ◌+◌, ◌*◌, ◌++◌, take, length}
use Rattle.hex.specs.Hex.{encode_lower}
use Rattle.pmb_json_text.proofs.hex_digits.append_all_digits.Given as goal

-- the bytes so far
abbrev pub invariant-loop-byte : goal.invariant-loop-byte
invariant-loop-byte g l = record {
  text : l.out.items ≡ l.fn.out.items ++ encode_lower (take l.byte-index l.bytes);
  short : length l.out.items ≡ length l.fn.out.items + 2 * l.byte-index;
}
