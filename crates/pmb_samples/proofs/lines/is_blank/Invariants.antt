use Rattle.std.proofs.Common.{◌≡◌, length}
use Rattle.pmb_samples.specs.Source.{is_blank_text}
use Rattle.pmb_samples.proofs.lines.is_blank.Given as goal

-- the bytes so far were blanks
abbrev pub invariant-loop-left : goal.invariant-loop-left
invariant-loop-left l = is_blank_text l.fn.text ≡ is_blank_text l.left

abbrev pub decreases-loop-left : goal.decreases-loop-left
decreases-loop-left l = length l.left
