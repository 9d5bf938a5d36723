use Rattle.std.proofs.Common.{◌≡◌, take}
use Rattle.pmb_bus.specs.Text.{front_word}
use Rattle.pmb_telling.proofs.word_end.word_bytes.Given as goal

-- the bytes so far are of one word
abbrev pub invariant-loop-byte : goal.invariant-loop-byte
invariant-loop-byte l = record {
  counted : l.count ≡ l.byte-index;
  word : front_word (take l.byte-index l.bytes) ≡ take l.byte-index l.bytes;
}
