use Rattle.std.proofs.Common.{◌≡◌, length}
use Rattle.pmb_wire_names.specs.Matching.{is_behind_point}
use Rattle.pmb_wire_names.proofs.matching.stands_behind_point.Given as goal

-- it stands behind no point so far
abbrev pub invariant-loop-left : goal.invariant-loop-left
invariant-loop-left l = is_behind_point l.fn.wanted l.fn.name ≡ is_behind_point l.fn.wanted l.left

abbrev pub decreases-loop-left : goal.decreases-loop-left
decreases-loop-left l = length l.left
