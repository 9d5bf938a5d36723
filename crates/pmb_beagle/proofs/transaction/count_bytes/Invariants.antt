use Rattle.std.proofs.Common.{◌≡◌, ◌+◌, ◌≤◌, length}
use Rattle.pmb_beagle.specs.Bytes.{bytes_of}
use Rattle.pmb_beagle.specs.Views.{counted}
use Rattle.pmb_words.specs.Left.{words_left}
use Rattle.pmb_words.specs.Parts.{words}
use Rattle.pmb_beagle.proofs.transaction.count_bytes.Given as goal

-- those so far were counted
abbrev pub invariant-loop-word : goal.invariant-loop-word
invariant-loop-word l = record {
  count : counted 0 (bytes_of (words l.text)) ≡ counted l.count (bytes_of (words_left l.left));
  room : l.count + length (words_left l.left) ≤ length l.text;
}

abbrev pub decreases-loop-word : goal.decreases-loop-word
decreases-loop-word l = length (words_left l.left)
