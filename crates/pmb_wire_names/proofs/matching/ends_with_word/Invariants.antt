use Rattle.std.proofs.Common.{◌≡◌, length}
use Rattle.pmb_wire_names.specs.Matching.{has_word, last_part}
use Rattle.pmb_wire_names.proofs.matching.ends_with_word.Given as goal

-- the word begins nowhere so far
abbrev pub invariant-loop-left : goal.invariant-loop-left
invariant-loop-left l = has_word l.fn.word (last_part l.fn.name) ≡ has_word l.fn.word l.left

abbrev pub decreases-loop-left : goal.decreases-loop-left
decreases-loop-left l = length l.left
