use Rattle.std.proofs.Common.{◌≡◌, length}
use Rattle.pmb_sample_fields.specs.Units.{unit_from, unit_said}
use Rattle.pmb_sample_fields.proofs.unit.unit_said.Given as goal

-- no word so far was a unit's
abbrev pub invariant-loop-left : goal.invariant-loop-left
invariant-loop-left l = unit_said l.fn.name ≡ unit_from l.is_inside l.left

abbrev pub decreases-loop-left : goal.decreases-loop-left
decreases-loop-left l = length l.left
