use Rattle.std.proofs.Common.{◌≡◌, length}
use Rattle.pmb_words.specs.Left.{words_left}
use Rattle.pmb_trace.specs.Line.{others_in}
use Rattle.pmb_trace.proofs.line.has_other.Given as goal

-- none so far
abbrev pub invariant-loop-word : goal.invariant-loop-word
invariant-loop-word l = others_in l.fn.kind (words_left l.fn.words) ≡ others_in l.fn.kind (words_left l.rest)

abbrev pub decreases-loop-word : goal.decreases-loop-word
decreases-loop-word l = length (words_left l.rest)
