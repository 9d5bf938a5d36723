use Rattle.std.proofs.Common.{◌≡◌, ◌++◌, take}
use Rattle.pmb_json_text.specs.Spelling.{all_escaped}
use Rattle.pmb_files.proofs.faults.append_name.Given as goal

-- the bytes so far
abbrev pub invariant-loop-byte : goal.invariant-loop-byte
invariant-loop-byte l = l.line.items ≡ l.fn.line.items ++ all_escaped (take l.byte-index l.byte-items)
