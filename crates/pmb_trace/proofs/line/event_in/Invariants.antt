use Rattle.std.proofs.Common.{◌≡◌, [], length}
use Rattle.pmb_words.specs.Left.{from_next, words_left}
use Rattle.pmb_words.specs.Parts.{blank, pieces}
use Rattle.pmb_trace.specs.Line.{event_in}
use Rattle.pmb_trace.proofs.line.event_in.Given as goal

-- none so far
abbrev pub invariant-loop-word : goal.invariant-loop-word
invariant-loop-word l = event_in [] (pieces blank l.line) ≡ event_in l.front (from_next l.rest)

abbrev pub decreases-loop-word : goal.decreases-loop-word
decreases-loop-word l = length (words_left l.rest)
