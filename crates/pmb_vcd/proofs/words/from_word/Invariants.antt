use Rattle.std.proofs.Common.{◌≡◌, length}
use Rattle.pmb_vcd.specs.Words.{behind_blanks}
use Rattle.pmb_vcd.proofs.words.from_word.Given as goal

-- what is left has the same first word
abbrev pub invariant-loop-left : goal.invariant-loop-left
invariant-loop-left l = behind_blanks l.left ≡ behind_blanks l.fn.text

abbrev pub decreases-loop-left : goal.decreases-loop-left
decreases-loop-left l = length l.left
