use Rattle.std.proofs.Common.{◌≡◌, ◌+◌, length}
use Rattle.pmb_vcd.specs.Words.{word_at}
use Rattle.pmb_vcd.proofs.words.word_length.Given as goal

-- the bytes so far, and those of the word that are left
abbrev pub invariant-loop-left : goal.invariant-loop-left
invariant-loop-left l = record {
  so_far : l.length + length (word_at l.left) ≡ length (word_at l.fn.text);
  fits : l.length + length l.left ≡ length l.fn.text;
}

abbrev pub decreases-loop-left : goal.decreases-loop-left
decreases-loop-left l = length l.left
