use Rattle.std.proofs.Common.{◌≡◌, length}
use Rattle.pmb_wire_names.specs.Matching.{begins}
use Rattle.pmb_wire_names.proofs.matching.begins_with.Given as goal

-- the letters so far are the same
abbrev pub invariant-loop-word_left : goal.invariant-loop-word_left
invariant-loop-word_left l = begins l.fn.word l.fn.text ≡ begins l.word_left l.left

abbrev pub decreases-loop-word_left : goal.decreases-loop-word_left
decreases-loop-word_left l = length l.word_left
