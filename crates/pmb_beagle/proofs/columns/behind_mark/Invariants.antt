use Rattle.std.proofs.Common.{◌≡◌, length}
use Rattle.pmb_beagle.specs.Columns.{without_hashes}
use Rattle.pmb_beagle.proofs.columns.behind_mark.Given as goal

-- what was passed is `#` and blanks
abbrev pub invariant-loop-left : goal.invariant-loop-left
invariant-loop-left l = without_hashes l.fn.line ≡ without_hashes l.left

abbrev pub decreases-loop-left : goal.decreases-loop-left
decreases-loop-left l = length l.left
