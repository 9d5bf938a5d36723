use Rattle.std.proofs.Common.{◌≡◌, length}
use Rattle.pmb_words.specs.Parts.{blank, from_first, pieces, words}
use Rattle.pmb_words.proofs.words.from_word.Given as goal

-- the words are the same
abbrev pub invariant-loop-left : goal.invariant-loop-left
invariant-loop-left l = record {
  same : words l.left ≡ words l.fn.text;
  pieces : from_first (pieces blank l.left) ≡ from_first (pieces blank l.fn.text);
}

abbrev pub decreases-loop-left : goal.decreases-loop-left
decreases-loop-left l = length l.left
