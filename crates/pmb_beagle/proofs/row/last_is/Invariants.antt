use Rattle.std.proofs.Common.{◌≡◌, length}
use Rattle.pmb_beagle.proofs.RowLemmas.{last_with}
use Rattle.pmb_beagle.specs.Export.{ends_with}
use Rattle.pmb_beagle.proofs.row.last_is.Given as goal

-- it is the last of what is left, or the byte in front of that is
abbrev pub invariant-loop-left : goal.invariant-loop-left
invariant-loop-left l = ends_with l.last l.text ≡ last_with l.last l.is_last l.left

abbrev pub decreases-loop-left : goal.decreases-loop-left
decreases-loop-left l = length l.left
