use Rattle.std.proofs.Common.{◌≡◌, ◌++◌, map, take}
use Rattle.pmb_files.specs.Values.{in_line}
use Rattle.pmb_files.proofs.values.append_line.Given as goal

-- the bytes so far
abbrev pub invariant-loop-byte : goal.invariant-loop-byte
invariant-loop-byte l = l.text.items ≡ l.fn.text.items ++ map in_line (take l.byte-index l.word)
