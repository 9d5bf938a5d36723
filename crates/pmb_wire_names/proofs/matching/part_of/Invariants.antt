use Rattle.std.proofs.Common.{◌≡◌, length}
use Rattle.pmb_wire_names.specs.Matching.{last_from, last_part}
use Rattle.pmb_wire_names.proofs.matching.part_of.Given as goal

-- the last part is found in what is left, or is the one so far
abbrev pub invariant-loop-left : goal.invariant-loop-left
invariant-loop-left l = last_part l.fn.name ≡ last_from l.part l.left

abbrev pub decreases-loop-left : goal.decreases-loop-left
decreases-loop-left l = length l.left
