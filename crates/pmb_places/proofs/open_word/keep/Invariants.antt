use Rattle.std.proofs.Common.{◌≡◌, ◌++◌, take}
use Rattle.pmb_places.proofs.open_word.keep.Given as goal

-- the bytes so far came after those that were there
abbrev pub invariant-loop-byte : goal.invariant-loop-byte
invariant-loop-byte l = l.bytes.items ≡ l.initial.bytes.items ++ take l.byte-index l.front
