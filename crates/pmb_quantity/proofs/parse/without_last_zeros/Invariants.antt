use Rattle.std.proofs.Common.{◌≡◌, ◌≤◌, length, take}
use Rattle.pmb_quantity.specs.Reading.{without_last_zeros}
use Rattle.pmb_quantity.proofs.parse.without_last_zeros.Given as goal

abbrev pub invariant-loop-end : goal.invariant-loop-end
invariant-loop-end l = (without_last_zeros (take l.end l.digits) ≡ without_last_zeros l.digits)
    × (l.end ≤ length l.digits)

abbrev pub decreases-loop-end : goal.decreases-loop-end
decreases-loop-end l = l.end
