use Rattle.std.proofs.Common.{◌≡◌, ◌-◌, ◌*◌, ◌^◌, ◌≤◌}
use Rattle.pmb_quantity.proofs.quantity.without_fives.Given as goal

-- what was taken out, and how many are left
abbrev pub invariant-loop-left : goal.invariant-loop-left
invariant-loop-left l = (l.rest * 5 ^ (l.fives - l.left) ≡ l.number) × (l.left ≤ l.fives)

abbrev pub decreases-loop-left : goal.decreases-loop-left
decreases-loop-left l = l.left
