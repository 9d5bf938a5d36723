use Rattle.std.proofs.Common.{◌≡◌, length}
use Rattle.pmb_beagle.specs.Bytes.{bytes_of}
use Rattle.pmb_beagle.specs.Views.{behind}
use Rattle.pmb_words.specs.Left.{words_left}
use Rattle.pmb_words.specs.Parts.{words}
use Rattle.pmb_beagle.proofs.transaction.push_bytes.Given as goal

-- those so far were put on the wire
abbrev pub invariant-loop-word : goal.invariant-loop-word
invariant-loop-word l =
    behind l.fn.wire.items (bytes_of (words l.text)) ≡ behind l.wire.items (bytes_of (words_left l.left))

abbrev pub decreases-loop-word : goal.decreases-loop-word
decreases-loop-word l = length (words_left l.left)
